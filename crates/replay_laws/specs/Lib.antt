pub mod Events
pub mod InForce
