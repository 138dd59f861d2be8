pub mod Bits
pub mod Rule
pub mod Normal
pub mod Examples
pub mod Wide
pub mod Codes
pub mod Undone
