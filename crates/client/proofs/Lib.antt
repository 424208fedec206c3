pub mod Parts
pub mod Numbers
pub mod Expected
pub mod Zeros
pub mod Proved
