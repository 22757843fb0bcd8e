pub mod Way
pub mod Rows
pub mod Ids
pub mod Once
