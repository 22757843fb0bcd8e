pub mod Places
pub mod OneAxis
pub mod Once
