pub mod SyntaxLaws
pub mod Parsing
