pub mod FillImage
pub mod Image
pub mod Exports
pub mod Parts
