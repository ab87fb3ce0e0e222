pub mod Analysed
pub mod Kept
pub mod Limits
pub mod Solved
