-- Definitions that only the functions of this crate cite.
pub mod Layout
pub mod Log
pub mod Memory
