pub mod Trace
pub mod Trails
pub mod Walked
pub mod Closed
