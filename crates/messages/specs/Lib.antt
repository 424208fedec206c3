pub mod Messages
pub mod Theorems
