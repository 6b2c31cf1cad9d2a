pub mod Days
pub mod Whole
