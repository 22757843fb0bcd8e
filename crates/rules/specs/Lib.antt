pub mod Sums
pub mod Grid
pub mod Refusals
pub mod Curve
pub mod Axis
pub mod Knots
pub mod Halving
pub mod Demands
