pub mod Lines
pub mod Opened
pub mod Refusals
pub mod Shape
