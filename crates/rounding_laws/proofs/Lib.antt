pub mod RoundNear
pub mod ErrorsAddUp
pub mod ScaledValue
pub mod CellClose
pub mod DifferByOne
pub mod CellAtMostOneOff
pub mod KnotAtMostOneOff
pub mod IndexAtMostOneOff
