pub mod Evaluating
pub mod Fields
pub mod Located
pub mod Offsets
