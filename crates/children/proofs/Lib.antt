pub mod Building
pub mod Linking
pub mod Rows
