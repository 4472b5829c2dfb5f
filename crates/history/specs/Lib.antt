pub mod Deeds
pub mod History
pub mod Standing
pub mod SheetCalls
pub mod Notes
pub mod Runs
pub mod Law
pub mod Told
