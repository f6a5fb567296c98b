-- Definitions that only laws cite.
pub mod Laws
pub mod PartTokens
