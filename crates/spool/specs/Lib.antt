pub mod Answers
pub mod Reading
pub mod Writing
pub mod Salvage
pub mod Steps
pub mod Theorems
