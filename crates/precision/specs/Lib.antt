pub mod Steps
pub mod Fit
pub mod Beside
pub mod Waits
pub mod Results
pub mod Life
pub mod Precise
pub mod Lists
