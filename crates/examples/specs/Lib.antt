pub mod Table
pub mod NearMisses
