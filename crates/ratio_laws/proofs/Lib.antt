pub mod OneValue
pub mod Again
pub mod LeadingDigits
pub mod Exactly
pub mod Scaled
