pub mod Upload
pub mod Theorems
