pub mod Faults
pub mod Figure
pub mod Laws
pub mod Packets
