pub mod Lengths
pub mod Table
pub mod Orders
pub mod Vectors
pub mod Blocks
pub mod Calls
pub mod Proved
