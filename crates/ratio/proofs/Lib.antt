pub mod Exact
pub mod Once
