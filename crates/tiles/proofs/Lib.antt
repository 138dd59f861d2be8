pub mod Corners
pub mod Pixels
pub mod Doubling
