pub mod Cases
pub mod Constants
pub mod Lists
pub mod Marks
pub mod Order
pub mod Ranks
pub mod Types
pub mod Validity
