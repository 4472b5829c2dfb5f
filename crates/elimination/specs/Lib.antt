pub mod Amounts
pub mod Walks
pub mod Simple
pub mod Sizes
pub mod Held
