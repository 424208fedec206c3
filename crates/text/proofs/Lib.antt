pub mod Texts
pub mod Decimals
pub mod Proved
