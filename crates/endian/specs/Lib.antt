pub mod Lists
pub mod Endian
pub mod Fields
