pub mod BadEntries
pub mod Crossings
pub mod LineLaws
pub mod Picks
pub mod SquareLaws
