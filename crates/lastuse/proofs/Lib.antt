pub mod Walks
pub mod Sets
pub mod Opens
