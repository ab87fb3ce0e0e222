pub mod CellLaws
pub mod EnvironmentLaws
pub mod Environments
pub mod Kept
pub mod Pointwise
