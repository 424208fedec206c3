pub mod Links
pub mod Configs
pub mod Ends
pub mod Plans
pub mod Proved
