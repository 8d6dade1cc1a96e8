pub mod Last
pub mod Turning
pub mod Peaks
pub mod Sets
