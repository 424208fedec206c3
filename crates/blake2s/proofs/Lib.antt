pub mod Blocks
pub mod Contexts
pub mod Numbers
pub mod Streams
pub mod Sessions
pub mod Proved
