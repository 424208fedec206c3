pub mod Block
pub mod Making
pub mod Theorems
