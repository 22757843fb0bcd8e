pub mod Tests
pub mod Call
pub mod Once
