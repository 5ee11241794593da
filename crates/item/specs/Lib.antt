pub mod Item
pub mod Located
pub mod Offsets
