pub mod Finds
pub mod Rests
pub mod Fetches
pub mod Held
