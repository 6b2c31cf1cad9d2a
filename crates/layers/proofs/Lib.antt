pub mod Interleavings
pub mod Orders
pub mod Stacks
pub mod Words
