pub mod Play
pub mod Precision
pub mod Move
