pub mod Went
pub mod Once
