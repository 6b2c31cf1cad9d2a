pub mod Answers
pub mod Found
pub mod Rows
pub mod View
pub mod Places
pub mod Searches
pub mod Loads
pub mod Steps
