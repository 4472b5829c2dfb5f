pub mod Bounds
pub mod Walks
pub mod Least
pub mod Claims
