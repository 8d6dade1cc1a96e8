pub mod Copies
pub mod Counting
pub mod Fields
pub mod Listing
pub mod Tallied
pub mod Touches
pub mod Trace
