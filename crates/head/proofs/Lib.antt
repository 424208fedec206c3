pub mod Ranges
pub mod Admitted
pub mod Ways
pub mod Frames
pub mod Statuses
pub mod Proved
pub mod KnownAnswers
