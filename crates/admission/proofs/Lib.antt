pub mod Admission
pub mod Admitting
pub mod Calls
