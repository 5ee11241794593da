pub mod Moving
pub mod Swapping
