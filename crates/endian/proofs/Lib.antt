pub mod Cases
pub mod Lists
pub mod Same
pub mod Words
