pub mod Visiting
pub mod Blits
pub mod Rows
pub mod Strokes
pub mod Running
pub mod Hatching
pub mod Entries
