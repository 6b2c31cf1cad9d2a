pub mod Beginnings
pub mod Cutting
pub mod Marks
pub mod Trims
