pub mod Bests
pub mod Summing
pub mod Settling
