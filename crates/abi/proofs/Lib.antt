pub mod RoundTrip
pub mod Packed
pub mod Stores
pub mod Ways
pub mod Ranges
pub mod Called
pub mod Proved
