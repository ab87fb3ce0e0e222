pub mod Covering
pub mod Lexeme
pub mod Scan
pub mod Spans
