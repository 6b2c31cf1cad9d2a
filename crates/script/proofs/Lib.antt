pub mod Hexes
pub mod Numerals
pub mod Texts
