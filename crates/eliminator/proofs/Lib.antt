pub mod Viewing
pub mod Visiting
pub mod Listing
pub mod Beginning
pub mod Stages
pub mod Relaxing
