pub mod Bytes
pub mod Lengths
pub mod Folds
pub mod NoFlash
pub mod Proved
