pub mod Reading
pub mod Session
pub mod Ranges
pub mod Boot
pub mod Client
pub mod Checklist
