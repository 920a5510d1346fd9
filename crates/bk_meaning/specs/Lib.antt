-- What programs mean: read in this order.
pub mod Values
pub mod Causes
pub mod Memory
pub mod World
pub mod Operators
pub mod Environment
pub mod Lasting
pub mod Library
pub mod Seeking
pub mod Parts
pub mod Scopes
pub mod Calls
pub mod Expressions
pub mod Loops
pub mod Blocks
pub mod Commands
pub mod Program
pub mod Full
-- Laws of it.
pub mod Growing
pub mod Turns
pub mod Numbering
