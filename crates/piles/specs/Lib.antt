pub mod Answers
pub mod Bases
pub mod Piles
pub mod Policies
pub mod Readings
