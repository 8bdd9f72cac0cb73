mod Fronts
mod Places
mod Ruled
pub mod Trip
