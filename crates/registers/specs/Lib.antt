pub mod Registers
pub mod Patterns
pub mod States
pub mod Examples
