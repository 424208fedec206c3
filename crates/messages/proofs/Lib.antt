pub mod Lengths
pub mod Proved
