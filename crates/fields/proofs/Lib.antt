pub mod Plain
pub mod GoesOn
pub mod Examples
pub mod Once
