-- Definitions that only the functions of this crate cite.
pub mod BufferedPrinting
pub mod Edges
pub mod FrameStacks
pub mod Planning
pub mod Search
