pub mod Taking
pub mod Tallies
