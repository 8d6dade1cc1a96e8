pub mod Algebra
pub mod Stretches
pub mod Kinds
pub mod KindLaws
