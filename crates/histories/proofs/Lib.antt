pub mod Counts
pub mod Upper
pub mod Lower
pub mod Rising
pub mod Index
pub mod Reading
pub mod Seats
pub mod Keeping
