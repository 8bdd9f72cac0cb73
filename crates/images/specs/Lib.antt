pub mod Kinds
pub mod Words
pub mod Causes
pub mod Image
pub mod State
pub mod Rules
pub mod Laws
