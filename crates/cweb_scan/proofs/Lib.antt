pub mod Steps
pub mod Common
pub mod TiedSteps
pub mod Rooms
pub mod NextMatchPays
pub mod FirstLexeme
pub mod LineUnits
pub mod TakenItems
pub mod WholeItems
pub mod NameSizes
pub mod Moves
pub mod LexemeMoves
pub mod Weights
pub mod FirstMatchTaken
pub mod Ends
pub mod RestByLexemes
pub mod VerbatimAndIncludes
pub mod InLineItemSteps
pub mod InLineRules
pub mod PlainFirsts
pub mod Plains
pub mod PlainLexemes
pub mod Blanks
pub mod Furthers
pub mod FurtherLiterals
pub mod Measures
pub mod LexemesAreUnique
pub mod Bounds
pub mod LiteralOpeners
pub mod Gaps
pub mod LineEnds
pub mod Taken
pub mod LineBegins
pub mod Scans
pub mod Aheads
pub mod Places
mod ExampleWords
mod WorkedExamples
mod FaultExamples
mod NameExamples
mod DirectiveExamples
mod MacroExamples
mod ItemExamples
mod CodeExamples
mod RawLiteralExamples
mod ThousandNames
mod LawExamples
pub mod OpeningSteps
pub mod SkippedRest
pub mod CodeSteps
pub mod SkippedLines
pub mod RuleSteps
pub mod HeadSteps
pub mod HeadStays
pub mod LineSteps
pub mod PendingItems
pub mod PendingComments
pub mod PendingNames
pub mod CrossedLineEnds
pub mod QuotedItems
pub mod PendingLiterals
pub mod PlainBodies
pub mod PendingKinds
pub mod PlainStates
pub mod PlainReadings
pub mod PlainTokens
pub mod LexemesKeepTheirLines
pub mod StepAfterPlain
pub mod Walked
pub mod Adding
pub mod SmallSteps
pub mod CountedLexemes
pub mod Terms
pub mod MarkedUses
pub mod OpeningCodes
pub mod BegunParts
pub mod WholeParts
