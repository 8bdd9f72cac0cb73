pub mod Numbers
pub mod Words
pub mod Laws
pub mod Table
pub mod Plain
pub mod State
