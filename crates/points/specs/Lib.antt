pub mod Takes
pub mod Cells
