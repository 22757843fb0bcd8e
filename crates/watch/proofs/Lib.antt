pub mod Followed
pub mod Once
