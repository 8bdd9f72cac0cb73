pub mod Mean
pub mod Steps
