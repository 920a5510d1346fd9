pub mod Spelling
pub mod Placed
pub mod Rows
pub mod Brackets
pub mod Grammar
pub mod SyntaxFault
pub mod Machine
