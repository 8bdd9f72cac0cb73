pub mod Filling
mod Making
mod Counting
pub mod Playing
pub mod Living
mod Moving
