pub mod Chains
pub mod Sets
