pub mod Fields
pub mod Proved
