pub mod Counting
pub mod Taking
pub mod Progress
pub mod Digits
pub mod Lowest
