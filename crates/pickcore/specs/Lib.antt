pub mod Record
pub mod Cycle
pub mod Model
pub mod Limits
pub mod Calls
pub mod Core
pub mod Sound
pub mod Setup
