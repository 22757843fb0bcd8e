pub mod WithEvents
