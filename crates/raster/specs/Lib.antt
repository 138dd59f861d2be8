pub mod Raster
pub mod Selectors
pub mod Examples
pub mod Codes
