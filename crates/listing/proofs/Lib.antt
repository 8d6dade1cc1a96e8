pub mod Firsts
pub mod Pieces
pub mod Splits
pub mod Tables
pub mod Tallies
pub mod Traces
