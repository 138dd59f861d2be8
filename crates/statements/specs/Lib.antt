pub mod Paper
pub mod World
pub mod Demand
pub mod Refusals
pub mod Images
pub mod SolidLines
pub mod Examples
