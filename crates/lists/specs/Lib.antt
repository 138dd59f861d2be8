pub mod Spans
pub mod Cursors
