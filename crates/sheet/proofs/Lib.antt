pub mod Lists
pub mod Levels
pub mod Names
pub mod Judging
pub mod Fields
pub mod Scanned
pub mod Whole
pub mod Located
