pub mod First
pub mod Levels
pub mod Nodes
pub mod Making
pub mod Walk
pub mod Root
pub mod Known
pub mod Once
