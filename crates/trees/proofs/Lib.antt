pub mod Trees
pub mod Asks
pub mod Raises
pub mod Extends
