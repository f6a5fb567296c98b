pub mod inner
pub mod Tree
pub mod Steps
pub mod Bins
