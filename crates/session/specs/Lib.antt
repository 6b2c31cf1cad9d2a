pub mod Carrying
pub mod Naming
pub mod NamingLaws
pub mod Obeying
pub mod Sessions
pub mod Sides
pub mod Tasks
