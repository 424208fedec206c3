pub mod Reasons
pub mod Monitor
pub mod Calls
