pub mod Lines
pub mod Output
pub mod Turns
pub mod Theorems
