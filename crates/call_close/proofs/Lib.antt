pub mod Gathering
pub mod Closing
