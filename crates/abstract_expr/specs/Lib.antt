pub mod Expressions
pub mod Judging
pub mod Scopes
pub mod Standing
pub mod Tallies
pub mod Verdicts
