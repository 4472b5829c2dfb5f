pub mod Fields
pub mod Placed
