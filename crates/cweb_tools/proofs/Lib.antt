pub mod Common
pub mod RequestedOptions
pub mod BufferedLog
pub mod Stems
mod TangleWordExamples
mod WebItemExamples
pub mod Arguments
pub mod Doing
pub mod Endings
pub mod Exits
pub mod MergeExits
pub mod Prints
pub mod ReadyExpanders
pub mod NamesOnce
pub mod RuleWords
pub mod Refusals
pub mod TanglePromisesProved
mod DepfileExamples
pub mod MergePromisesProved
pub mod MergeStops
pub mod ChangedFilesWereRead
pub mod InFolder
pub mod Broken
pub mod Leaving
pub mod WebActs
pub mod Limits
pub mod Logging
pub mod Targets
mod WorkedExamples
pub mod TangleExamples
pub mod HeadlineExamples
mod HeadlineFieldExamples
pub mod RunLaws
mod ScriptExamples
pub mod Statuses
pub mod TangleExits
pub mod ReadingStops
pub mod RunEnds
mod SpacingStarts
mod SpacingSeam
mod SpacingLaw
mod SpacingExamples
pub mod Terms
