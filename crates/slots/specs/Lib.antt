pub mod Slots
pub mod Calls
pub mod Picturing
