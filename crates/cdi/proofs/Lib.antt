pub mod Parts
pub mod Proved
