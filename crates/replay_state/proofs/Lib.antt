pub mod Halved
pub mod Known
pub mod Once
