pub mod Rule
pub mod Histories
pub mod Schedule
