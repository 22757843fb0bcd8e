pub mod GoesOn
pub mod Once
