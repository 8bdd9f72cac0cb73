pub mod Search
pub mod Flight
pub mod Meaning
pub mod Slots
