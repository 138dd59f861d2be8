pub mod Writes
pub mod Moves
pub mod Rounds
pub mod Examples
pub mod Stays
