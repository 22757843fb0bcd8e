pub mod OverThePoints
pub mod NeverForeign
