pub mod Merged
pub mod Accepted
pub mod Passing
