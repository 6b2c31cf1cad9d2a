pub mod Sets
pub mod Method
pub mod Choices
pub mod Fillings
pub mod Stopping
pub mod Settled
pub mod Theorems
