pub mod Applying
pub mod Operations
pub mod Pairs
pub mod Shares
