pub mod Acts
pub mod Asks
pub mod Holds
pub mod Playing
pub mod Solves
