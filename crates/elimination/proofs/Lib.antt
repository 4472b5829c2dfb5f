pub mod Order
pub mod Rows
pub mod Steps
pub mod Sweep
pub mod InPlace
pub mod Short
pub mod Sized
pub mod Laws
