pub mod Arithmetic
pub mod Answers
pub mod Rows
pub mod Bytes
pub mod Sums
pub mod RowLaws
