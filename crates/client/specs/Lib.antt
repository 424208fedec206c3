pub mod Answers
pub mod Frames
pub mod Replies
pub mod Theorems
