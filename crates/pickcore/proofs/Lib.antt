mod Shift
mod Issue
pub mod Cycles
pub mod Tags
pub mod Ties
pub mod Ways
pub mod Sounds
mod Stepping
mod Running
pub mod Taking
pub mod Registers
