pub mod Between
pub mod Once
