pub mod Answers
pub mod Calls
pub mod Hex
pub mod Lines
pub mod Numbers
pub mod Words
