pub mod Record
pub mod Types
pub mod Theorems
