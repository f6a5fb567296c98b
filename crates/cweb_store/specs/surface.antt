-- Definitions that public calls cite and the headline does not.
pub mod Tokens
