pub mod Occupancies
pub mod OneProof
pub mod Sets
pub mod Operations
