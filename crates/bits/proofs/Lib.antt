pub mod Eights
pub mod Found
pub mod Held
pub mod Ones
pub mod Rows
pub mod Word
