pub mod SameEnds
pub mod Once
