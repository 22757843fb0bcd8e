pub mod Demands
pub mod NotIdle
pub mod Parts
pub mod Replay
pub mod Neighbours
pub mod OneOff
