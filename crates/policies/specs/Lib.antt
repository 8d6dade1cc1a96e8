pub mod Memory
pub mod Recent
