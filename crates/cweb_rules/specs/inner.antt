-- Definitions that only the functions of this crate cite.
pub mod LineItems
pub mod Rules
