pub mod Chain
pub mod Theorems
