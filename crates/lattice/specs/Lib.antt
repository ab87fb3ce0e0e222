pub mod Lattice
pub mod Reached
