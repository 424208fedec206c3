pub mod Header
pub mod Answers
pub mod Theorems
