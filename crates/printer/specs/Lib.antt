pub mod Printing
pub mod Contract
pub mod Causes
