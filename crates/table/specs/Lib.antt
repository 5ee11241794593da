pub mod Rows
pub mod Record
pub mod Bytes
pub mod Meaning
