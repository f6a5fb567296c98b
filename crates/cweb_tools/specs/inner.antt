-- Definitions that only the functions of this crate cite.
pub mod LogText
pub mod Variables
pub mod Does
pub mod Tangle
pub mod RuleModel
