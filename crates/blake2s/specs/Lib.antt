pub mod Hash
pub mod Stream
pub mod Theorems
pub mod Steps
