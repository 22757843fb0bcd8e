pub mod Digits
pub mod Once
