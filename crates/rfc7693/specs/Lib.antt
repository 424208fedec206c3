pub mod Rfc7693
pub mod Theorems
