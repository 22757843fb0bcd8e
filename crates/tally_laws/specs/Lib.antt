pub mod Weighed
pub mod Added
pub mod Tallied
