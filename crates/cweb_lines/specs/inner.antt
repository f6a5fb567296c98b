-- Definitions that only the functions of this crate cite.
pub mod OpenSources
pub mod Finding
pub mod LineCalls
pub mod Passing
pub mod PassingChanges
pub mod MergeProgress
pub mod StepCalls
pub mod Stages
pub mod Ahead
