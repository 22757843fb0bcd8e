pub mod Places
pub mod Placed
