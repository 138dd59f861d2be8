pub mod Editions
pub mod Groups
pub mod Reports
pub mod Conversions
pub mod Passes
pub mod RoundTrip
pub mod Examples
