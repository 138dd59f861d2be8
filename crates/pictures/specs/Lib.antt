pub mod Texts
pub mod Pictures
pub mod Lent
pub mod Writing
pub mod Reading
pub mod Readers
pub mod RoundTrip
pub mod Examples
