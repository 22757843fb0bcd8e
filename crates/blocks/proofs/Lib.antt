pub mod AsBlocks
pub mod Alike
pub mod Once
