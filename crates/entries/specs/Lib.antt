pub mod Layout
pub mod Fields
pub mod Legality
pub mod Examples
