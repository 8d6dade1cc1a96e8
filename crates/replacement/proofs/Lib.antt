pub mod Distinct
pub mod Lines
pub mod Ways
pub mod Ranks
pub mod Lru
pub mod Srrip
pub mod Sets
