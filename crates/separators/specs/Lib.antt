pub mod Bytes
pub mod Machines
pub mod Separators
