pub mod Members
pub mod RowsRead
pub mod Segments
pub mod Starts
