-- Worked examples: macros and heads.
use Rattle.cweb_scan.proofs.Common.{◌≡◌, [], ◌∷◌, Blank, Newline, Join, Mark, LetterOutsideLimbo, CommentDidNotEnd, DefsInMacro, DefinitionDropped, scanned}
use Rattle.std.specs.Fmt.{digits}
use Rattle.cweb_scan.proofs.ExampleWords.{web, line, at, word, number, verbatim, punct, name, macro, unnamed, named_part, fault, wanted}

record Computed : Type 0 where
  a_literal_with_a_prefix_in_a_head : scanned (web ("@ @d L\"x\" y" ∷ "@d u8'a'" ∷ "@d LL" ∷ []))
      ≡ wanted [] (macro (word "LL" ∷ []) ∷ []) [] (fault DefinitionDropped 1 ∷ fault DefinitionDropped 2 ∷ []) 1 []
  line_ends_in_a_comment_of_a_macro : scanned (web ("@ @d m a /* b" ∷ "c */ d" ∷ "@d n" ∷ [])) ≡ wanted [] (macro (word
      "m" ∷ Blank ∷ word "a" ∷ Newline ∷ word "d" ∷ []) ∷ macro (word "n" ∷ []) ∷ []) [] [] 1 []
  a_backslash_at_the_end_of_a_macro_and_at_the_end_of_the_text : scanned (web ("@ @d m \\" ∷ "x\\" ∷ "@d n \\" ∷ []))
      ≡ wanted [] (macro (word "m" ∷ Blank ∷ Newline ∷ word "x" ∷ []) ∷ macro (word "n" ∷ []) ∷ []) [] [] 1 []
  a_macro_keeps_its_first_blank_before_a_join : scanned (web ("@ @d m @& x  @& y" ∷ "@d n@&" ∷ "z" ∷ []))
      ≡ wanted [] (macro (word "m" ∷ Blank ∷ Join ∷ word "x" ∷ Join ∷ word "y" ∷ []) ∷ macro (word "n" ∷ Blank ∷ Join ∷
      Newline ∷ word "z" ∷ []) ∷ []) [] [] 1 []
  a_macro_loses_its_last_newlines_then_one_blank : scanned (web ("@ @d m \\" ∷ "@^x@>" ∷ "" ∷ "@d n /* c */ " ∷ "@c" ∷
      [])) ≡ wanted [] (macro (word "m" ∷ []) ∷ macro (word "n" ∷ []) ∷ unnamed 1 5 [] ∷ []) [] [] 1 []
  codes_in_a_macro : scanned (web ("@ @d m @h @l @& @=v@> @'a' @t x@> @@ @z y@f a" ∷ "@d n@s" ∷ "@d o@c x" ∷ []))
      ≡ wanted [] (macro (word "m" ∷ Blank ∷ Join ∷ verbatim "v" ∷ number "97" ∷ punct "@" ∷ word "y" ∷ []) ∷ macro
      (word "n" ∷ []) ∷ macro (word "o" ∷ []) ∷ unnamed 1 3 (word "x" ∷ []) ∷ []) [] (fault DefsInMacro 1 ∷ fault
      LetterOutsideLimbo 1 ∷ []) 1 []
  a_head_over_comments_and_lines : scanned (web ("@ @d /* a" ∷ "b */ // c" ∷ "m x" ∷ "@d /* a @ b" ∷ "@d // x" ∷ "@*" ∷
      "@d @<A@>=y" ∷ [])) ≡ wanted (name "A" ∷ []) (macro (word "m" ∷ Blank ∷ word "x" ∷ []) ∷ named_part 0 3 7 (word
      "y" ∷ []) ∷ []) [] (fault CommentDidNotEnd 4 ∷ fault DefinitionDropped 4 ∷ fault DefinitionDropped 5 ∷ fault
      DefinitionDropped 7 ∷ []) 3 (3 ∷ [])
  heads_that_have_no_identifier : scanned (web ("@ @d 1" ∷ "@d @d m" ∷ "@d" ∷ "@ @d \"x\"" ∷ "@d @" ∷ []))
      ≡ wanted [] (macro (word "m" ∷ []) ∷ []) [] (fault DefinitionDropped 1 ∷ fault DefinitionDropped 2 ∷ fault
      DefinitionDropped 3 ∷ fault DefinitionDropped 4 ∷ fault DefinitionDropped 5 ∷ []) 3 []
  no_marks_in_a_macro : scanned (line "@ @d m a" (at 0 3) ∷ line "b" (at 1 4) ∷ line "@ @c" (at 0 6) ∷ line "d" (at 1 9)
      ∷ []) ≡ wanted [] (macro (word "m" ∷ Blank ∷ word "a" ∷ Newline ∷ word "b" ∷ []) ∷ unnamed 2 6 (Mark (at 1 9) ∷
      word "d" ∷ []) ∷ []) [] [] 2 []

computed : Computed
unfolding digits
computed = search
