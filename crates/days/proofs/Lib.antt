pub mod Clearing
pub mod Obeying
