pub mod Answers
pub mod Chunks
pub mod Lists
pub mod Showing
