pub mod Cells
pub mod Point
pub mod Written
pub mod Axes
pub mod Once
