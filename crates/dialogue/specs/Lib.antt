pub mod Beginnings
pub mod Lines
pub mod Sayings
pub mod Scores
pub mod Scripts
pub mod Symbols
pub mod Tellings
pub mod Verbs
