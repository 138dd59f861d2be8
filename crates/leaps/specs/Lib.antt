pub mod Leaps
pub mod ListRuns
