pub mod Blits
pub mod Ranges
pub mod Places
pub mod Rows
pub mod Bits
pub mod Tiled
