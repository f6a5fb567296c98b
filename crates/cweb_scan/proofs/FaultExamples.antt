-- Worked examples: webs with faults.
use Rattle.cweb_scan.proofs.Common.{◌≡◌, ℕ, zero, suc, List, [], ◌∷◌, ◌++◌, Token, Newline, DoubleAtInLimbo, ImproperHexNumber, ReplacementTooLong, LetterOutsideLimbo, NameDidNotEnd, NamesDoNotNest, CommentDidNotEnd, DoubleAtInString, ControlTextDidNotEnd, FaultyConstant, IgnoredInCText, MissingAt, DefsInMacro, DefinitionDropped, scanned}
use Rattle.std.specs.Prelude.{replicate}
use Rattle.cweb_scan.proofs.ExampleWords.{web, word, literal, punct, mark, named, name, macro, unnamed, fault, wanted}

-- Uses of a range of occurrences.
abbrev uses : ℕ → ℕ → List Token
uses zero n = []
uses (suc k) n = named n ∷ mark 1 ∷ uses k (suc n)

record Computed : Type 0 where
  codes_where_they_have_no_place : scanned (web ("me@@x @c" ∷ "@ @c int a; @d @l b @'ab' \"x@y\"" ∷ []))
      ≡ wanted [] (unnamed 1 2 (word "int" ∷ word "a" ∷ punct ";" ∷ word "b" ∷ literal "\"x@y\"" ∷ []) ∷ []) [] (fault
      DoubleAtInLimbo 1 ∷ fault IgnoredInCText 2 ∷ fault LetterOutsideLimbo 2 ∷ fault FaultyConstant 2 ∷ fault
      DoubleAtInString 2 ∷ []) 1 []
  faults_in_the_order_of_items : scanned (web ("@l 7f x" ∷ "@l e4 xxxxxxxxxxxxxxxxxxxxxxxxxxxxxxxx" ∷ "@ @d 1" ∷
      "@d m @h @l" ∷ "@c @t ab" ∷ "@<A@<B@> =b" ∷ [])) ≡ wanted (name "A" ∷ name "B" ∷ []) (macro (word "m" ∷ []) ∷
      unnamed 1 5 (Newline ∷ named 0 ∷ mark 6 ∷ named 1 ∷ mark 6 ∷ punct "=" ∷ word "b" ∷ []) ∷ []) [] (fault
      ImproperHexNumber 1 ∷ fault ReplacementTooLong 2 ∷ fault DefinitionDropped 3 ∷ fault DefsInMacro 4 ∷ fault
      LetterOutsideLimbo 4 ∷ fault ControlTextDidNotEnd 5 ∷ fault NamesDoNotNest 6 ∷ fault MissingAt 6 ∷ []) 1 []
  a_name_up_to_the_end : scanned (web ("@ @c @<A" ∷ []))
      ≡ wanted (name "A" ∷ []) (unnamed 1 1 (named 0 ∷ mark 1 ∷ []) ∷ []) [] (fault NameDidNotEnd 1 ∷ []) 1 []
  a_comment_up_to_the_end : scanned (web ("@ @c x /* y" ∷ []))
      ≡ wanted [] (unnamed 1 1 (word "x" ∷ []) ∷ []) [] (fault CommentDidNotEnd 1 ∷ []) 1 []
  a_control_text_up_to_the_end : scanned (web ("@ @c @^ab" ∷ []))
      ≡ wanted [] (unnamed 1 1 [] ∷ []) [] (fault ControlTextDidNotEnd 1 ∷ []) 1 []
  a_constant_up_to_the_end : scanned (web ("@ @c @'" ∷ []))
      ≡ wanted [] (unnamed 1 1 [] ∷ []) [] (fault FaultyConstant 1 ∷ []) 1 []
  a_head_up_to_the_end : scanned (web ("@ @d" ∷ [])) ≡ wanted [] [] [] (fault DefinitionDropped 1 ∷ []) 1 []
  a_letter_up_to_the_end : scanned (web ("@l 8" ∷ [])) ≡ wanted [] [] [] (fault ImproperHexNumber 1 ∷ []) 0 []
  openers_one_after_another : scanned (web ("@ @c @<@<@<@<@<@<@<@<@<@<@<@<@<@<@<@<@<@<@<@<" ∷ []))
      ≡ wanted (replicate 20 (name "")) (unnamed 1 1 (uses 20 0) ∷ []) []
      (replicate 19 (fault NamesDoNotNest 1) ++ fault NameDidNotEnd 1 ∷ []) 1 []

computed : Computed
computed = search
