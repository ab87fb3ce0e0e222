pub mod Filling
pub mod Listing
pub mod Solving
pub mod Sources
