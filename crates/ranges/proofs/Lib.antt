pub mod Recents
pub mod OneList
pub mod Opens
pub mod Carries
