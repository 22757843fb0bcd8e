pub mod InParts
pub mod PowersOfTwo
pub mod LeadingStands
pub mod ByFives
pub mod Once
