pub mod Sides
pub mod Once
