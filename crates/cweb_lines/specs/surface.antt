-- Definitions that public calls cite and the headline does not.
pub mod OpenSources
pub mod OpenedFileNames
pub mod Writing
pub mod MergerCalls
pub mod MergeProgress
