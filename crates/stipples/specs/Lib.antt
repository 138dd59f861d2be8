pub mod Stipples
pub mod Words
