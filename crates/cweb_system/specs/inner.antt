-- Definitions that only the functions of this crate cite.
pub mod Drafts
pub mod StreamCalls
pub mod Streams
pub mod Written
pub mod FolderCalls
