pub mod Reached
pub mod Weights
pub mod Once
