pub mod Cdi
pub mod Theorems
