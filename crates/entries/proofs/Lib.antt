pub mod Decodes
pub mod Registers
pub mod Finds
pub mod Lengths
pub mod Examples
