pub mod ByteLaws
pub mod Bytes
pub mod Hearing
pub mod LastNames
pub mod Lasts
pub mod Parities
pub mod ParityLaws
pub mod Restoring
