pub mod Powers
pub mod ThreeSides
pub mod Once
