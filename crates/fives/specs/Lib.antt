pub mod Parted
pub mod Fives
