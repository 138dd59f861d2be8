pub mod FillTrips
pub mod TakenTiles
pub mod RoundTrips
pub mod Calls
pub mod RunParts
pub mod Refusals
pub mod Files
