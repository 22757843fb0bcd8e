pub mod Depositing
pub mod Interleaved
