pub mod Parents
pub mod Signed
