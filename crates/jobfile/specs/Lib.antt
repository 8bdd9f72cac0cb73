pub mod Bytes
pub mod Jobs
pub mod Held
pub mod Lines
