pub mod Texts
pub mod Standing
pub mod Listings
pub mod Asked
pub mod ClosedNets
