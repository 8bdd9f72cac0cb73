pub mod Unwind
pub mod Buffer
pub mod Steps
pub mod Unwinding
pub mod Guards
