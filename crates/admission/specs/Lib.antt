pub mod Admission
pub mod Answers
