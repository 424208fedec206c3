pub mod Meaning
pub mod Examples
pub mod Theorems
