pub mod Machines
pub mod Examples
pub mod Once
