-- Worked examples: control codes in each context.
use Rattle.cweb_scan.proofs.Common.{◌≡◌, [], ◌∷◌, Blank, Newline, Defs, DoubleAtInLimbo, ImproperHexNumber, ReplacementTooLong, LetterOutsideLimbo, ControlTextDidNotEnd, IgnoredInCText, scanned}
use Rattle.cweb_scan.proofs.ExampleWords.{web, word, punct, mark, macro, unnamed, repl, fault, wanted}

record Computed : Type 0 where
  letters_in_limbo : scanned (web ("@l fc ue" ∷ "@l \t80\t_a9z-" ∷ "@l 7f x" ∷ "@l e4 abcdefghijklmnopqrstuvwxyz01234_"
      ∷ "@lfc" ∷ "@lfc x" ∷ "@L  FF -" ∷ "@l a" ∷ "@l FG x" ∷ [])) ≡ wanted [] [] (repl 252 "ue" ∷ repl 128 "_a9z" ∷
      repl 252 "x" ∷ repl 255 "" ∷ []) (fault ImproperHexNumber 3 ∷ fault ReplacementTooLong 4 ∷ fault ImproperHexNumber
      5 ∷ fault ImproperHexNumber 8 ∷ fault ImproperHexNumber 9 ∷ []) 0 []
  codes_in_limbo : scanned (web ("@@ @f @s @q c@> @q x@@y@z @> @<A@> @h @c" ∷ "@q x" ∷ [])) ≡ wanted [] [] [] (fault
      ControlTextDidNotEnd 1 ∷ fault DoubleAtInLimbo 1 ∷ fault DoubleAtInLimbo 1 ∷ fault DoubleAtInLimbo 1 ∷ fault
      DoubleAtInLimbo 1 ∷ fault DoubleAtInLimbo 1 ∷ fault DoubleAtInLimbo 1 ∷ fault ControlTextDidNotEnd 2 ∷ []) 0 []
  codes_in_text : scanned (web ("@ @@ @h @t x@> @l @& @= @' @f a b @s c @z @>" ∷ "@d m @f a b" ∷ "@c" ∷ "@*starred @h" ∷
      [])) ≡ wanted [] (macro (word "m" ∷ []) ∷ unnamed 1 3 (Newline ∷ []) ∷ []) [] [] 2 (2 ∷ [])
  codes_in_c : scanned (web ("@ @c a@d@f@s@c@p@h@l@@@z@D@P x" ∷ "y" ∷ []))
      ≡ wanted [] (unnamed 1 1 (word "a" ∷ Defs ∷ mark 1 ∷ punct "@" ∷ word "x" ∷ Newline ∷ word "y" ∷ []) ∷ []) []
      (fault IgnoredInCText 1 ∷ fault IgnoredInCText 1 ∷ fault IgnoredInCText 1 ∷ fault IgnoredInCText 1 ∷ fault
      IgnoredInCText 1 ∷ fault LetterOutsideLimbo 1 ∷ fault IgnoredInCText 1 ∷ fault IgnoredInCText 1 ∷ []) 1 []
  sections_by_blank_tab_line_end_and_end : scanned (web ("@" ∷ "x@ y" ∷ "@\tz" ∷ "@*a@c b" ∷ "@" ∷ []))
      ≡ wanted [] (unnamed 4 4 (word "b" ∷ Newline ∷ []) ∷ []) [] [] 5 (4 ∷ [])
  a_starred_section_in_c_text_and_in_a_macro : scanned (web ("@*@c a@*b" ∷ "@d m x@*" ∷ "@c" ∷ [])) ≡ wanted [] (unnamed
      1 1 (word "a" ∷ []) ∷ macro (word "m" ∷ Blank ∷ word "x" ∷ []) ∷ unnamed 3 3 [] ∷ []) [] [] 3 (1 ∷ 2 ∷ 3 ∷ [])

computed : Computed
computed = search
