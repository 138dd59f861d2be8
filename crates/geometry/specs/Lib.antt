pub mod Coordinates
pub mod Clip
pub mod Line
pub mod Blit
pub mod Visible
pub mod Examples
