pub mod Records
pub mod Faults
pub mod Sheets
pub mod Written
pub mod Told
pub mod Codes
pub mod Outlines
pub mod RoundTrips
