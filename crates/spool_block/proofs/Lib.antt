pub mod Blocks
pub mod Made
pub mod Proved
