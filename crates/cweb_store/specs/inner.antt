-- Definitions that only the functions of this crate cite.
pub mod StringTables
pub mod Words
pub mod StringLists
pub mod Squeezing
pub mod Known
pub mod PartRanges
pub mod Stored
pub mod Records
pub mod DirectBytes
