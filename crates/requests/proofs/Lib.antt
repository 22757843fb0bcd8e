pub mod PartsCases
pub mod ReplayCases
pub mod RoundingCases
