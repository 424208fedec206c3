pub mod Exits
