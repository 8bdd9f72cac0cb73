pub mod Tokens
pub mod Numerals
pub mod Found
pub mod Keywords
pub mod Calls
pub mod Scripts
pub mod Told
pub mod Examples
