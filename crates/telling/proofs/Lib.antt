pub mod Children
pub mod Renewing
pub mod Telling
