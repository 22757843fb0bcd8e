pub mod Shape
pub mod Filed
pub mod Once
