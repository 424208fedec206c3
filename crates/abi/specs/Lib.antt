pub mod Layout
pub mod Calls
pub mod Theorems
pub mod Steps
