pub mod Bytes
pub mod Faults
pub mod Memory
pub mod Place
pub mod Named
pub mod Reading
