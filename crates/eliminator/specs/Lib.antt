pub mod Views
pub mod Begun
pub mod Members
pub mod Steps
pub mod State
