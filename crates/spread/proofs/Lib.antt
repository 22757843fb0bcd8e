pub mod Masks
pub mod Repeats
pub mod Zorder
pub mod Once
