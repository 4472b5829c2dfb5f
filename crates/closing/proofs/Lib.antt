pub mod Choosing
pub mod Pushes
pub mod Telling
pub mod Traces
pub mod Loops
pub mod Towards
pub mod Tying
