pub mod Backward
pub mod Kept
pub mod Roots
