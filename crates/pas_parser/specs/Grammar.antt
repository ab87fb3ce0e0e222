pub mod Block
pub mod Constant
pub mod Expr
pub mod Program
pub mod Statement
pub mod TypeExpr
pub mod Word
