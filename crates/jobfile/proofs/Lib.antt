mod Hexadecimal
mod There
pub mod Texts
mod Back
