pub mod Copies
pub mod Slots
pub mod Steps
