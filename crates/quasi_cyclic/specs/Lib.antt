pub mod Circulants
pub mod Entries
pub mod EntryLaws
pub mod Lines
pub mod SquareRows
