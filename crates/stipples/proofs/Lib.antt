pub mod Bytes
pub mod Drawing
