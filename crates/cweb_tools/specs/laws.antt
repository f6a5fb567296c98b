-- Definitions that only laws cite.
pub mod RunEffects
