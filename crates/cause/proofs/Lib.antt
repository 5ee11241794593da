pub mod Numbers
pub mod Exits
