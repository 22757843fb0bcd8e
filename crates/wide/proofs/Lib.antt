mod Carry
mod Powers
mod Order
pub mod Once
