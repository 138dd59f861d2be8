pub mod Grounds
pub mod Slotted
pub mod Rasters
