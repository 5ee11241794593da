pub mod Digits
pub mod Notation
pub mod Writing
