pub mod Sums
pub mod Rows
pub mod Bumps
pub mod Scans
pub mod Raises
