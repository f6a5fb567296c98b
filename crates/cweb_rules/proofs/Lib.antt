pub mod Walks
mod FirstTable
pub mod Common
pub mod Longest
pub mod Seams
pub mod Sizes
pub mod TokenSizes
pub mod FirstRules
pub mod Looks
mod Reaching
pub mod Ranges
pub mod PlainSpans
pub mod ItemMatchesPay
pub mod MatchesPay
pub mod LineComments
pub mod LineConstants
pub mod LineCodes
pub mod OverLineEnds
pub mod LineLiterals
pub mod LineDelimiters
pub mod LineMatches
pub mod InLines
mod MatchExamples
mod CodeExamples
pub mod Lasts
pub mod Chosen
pub mod Joins
pub mod Raws
pub mod Stays
pub mod TokensStay
pub mod ClosedLiterals
pub mod Comments
pub mod Tokens
mod FollowExamples
pub mod UnitNewlines
pub mod Newlines
pub mod FirstBytes
pub mod Reaches
pub mod ItemReaches
