pub mod Decimal
pub mod Contract
