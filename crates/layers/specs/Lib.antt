pub mod LayerLaws
pub mod Layers
pub mod Permutations
pub mod Rows
