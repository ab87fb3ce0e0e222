pub mod Elements
pub mod Grown
pub mod Layouts
pub mod Rules
pub mod Subscripts
pub mod Weaker
