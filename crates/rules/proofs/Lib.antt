pub mod NamedCases
pub mod CornersMeet
pub mod Once
