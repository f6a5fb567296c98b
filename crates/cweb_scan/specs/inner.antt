-- Definitions that only the functions of this crate cite.
pub mod PendingItems
pub mod ReaderModel
pub mod ScanParts
pub mod MatchSteps
