pub mod Call
pub mod Once
