pub mod Strokes
pub mod Tracers
pub mod Bresenham
pub mod Ranges
pub mod Phases
pub mod Masks
