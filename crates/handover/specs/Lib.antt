pub mod Reset
pub mod Theorems
