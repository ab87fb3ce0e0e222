pub mod Actions
pub mod Crossed
pub mod Crossings
pub mod Forward
pub mod Reads
pub mod Solving
pub mod Standing
pub mod Systems
