pub mod Expr
pub mod Order
