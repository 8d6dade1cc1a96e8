pub mod Lines
pub mod Ways
pub mod Lru
pub mod Srrip
pub mod Policy
pub mod Sets
