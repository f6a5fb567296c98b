-- Worked examples of the laws.
use Rattle.cweb_scan.proofs.Common.{◌≡◌, true, false, List, [], ◌∷◌, map, Line, Blank, Join, Defs, Part, scanned, significant}
use Rattle.std.specs.List.{filter_map}
use Rattle.std.specs.Fmt.{digits}
use Rattle.cweb_scan.specs.laws.Laws.{lexemes_of_lines, section_starts, starred_numbers, occurrence_of_kind}
use Rattle.cweb_scan.specs.laws.PartTokens.{marks_follow, first_token_is, is_word}
use Rattle.cweb_scan.proofs.ExampleWords.{web, word, number, mark, named, name, prefix, macro, unnamed}

-- Two sections, the second one starred. A name in TeX counts too.
abbrev two : List Line
two = web ("limbo" ∷ "@ See @<Main...@>." ∷ "@* Main." ∷ "@d N 1" ∷ "@c @<Main loop@> @h x" ∷ [])

-- A Join after a use drops its Mark.
abbrev joins : List Line
joins = web ("@ @c @<A@>@& x @<A@> y" ∷ [])

record Computed : Type 0 where
  section_starts_of_two_sections : section_starts (lexemes_of_lines two) ≡ false ∷ true ∷ []
  number_of_sections : (scanned two).sections ≡ 2
  numbers_of_starred_sections : (scanned two).starred ≡ 2 ∷ []
  starred_numbers_from_one : starred_numbers 1 (false ∷ true ∷ true ∷ []) ≡ 2 ∷ 3 ∷ []
  names_among_the_lexemes : filter_map (λ p. occurrence_of_kind p.kind) (lexemes_of_lines two)
      ≡ prefix "Main" ∷ name "Main loop" ∷ []
  occurrences : (scanned two).store.occurrences ≡ prefix "Main" ∷ name "Main loop" ∷ []
  parts_are_framed : (scanned two).store.parts ≡ macro (word "N" ∷ Blank ∷ number "1" ∷ [])
      ∷ unnamed 2 5 (named 1 ∷ mark 5 ∷ Defs ∷ mark 5 ∷ word "x" ∷ []) ∷ []
  marks_follow_uses : map (λ (p : Part). marks_follow p.tokens) (scanned two).store.parts ≡ true ∷ true ∷ []
  a_join_follows_a_use : (scanned joins).store.parts
      ≡ unnamed 1 1 (named 0 ∷ Join ∷ word "x" ∷ named 1 ∷ mark 1 ∷ word "y" ∷ []) ∷ []
  it_follows_in_place_of_the_mark : map (λ (p : Part). marks_follow p.tokens) (scanned joins).store.parts ≡ true ∷ []
  a_use_without_a_mark : marks_follow (named 0 ∷ word "x" ∷ []) ≡ false
  a_macro_begins_with_its_name : map (λ (p : Part). first_token_is is_word p.tokens) (scanned two).store.parts
      ≡ true ∷ false ∷ []
  words_and_numbers_are_significant : significant (word "x" ∷ Blank ∷ number "1" ∷ mark 1 ∷ [])
      ≡ word "x" ∷ number "1" ∷ []

computed : Computed
unfolding digits
computed = search
