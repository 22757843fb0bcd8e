pub mod Sums
pub mod Cuts
