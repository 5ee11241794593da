pub mod Lines
pub mod Orders
pub mod Day
pub mod Room
pub mod Causes
