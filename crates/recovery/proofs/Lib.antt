pub mod Lasts
pub mod Flights
pub mod Admitting
