-- Worked examples: items of C text.
use Rattle.cweb_scan.proofs.Common.{◌≡◌, [], ◌∷◌, Blank, Newline, CommentDidNotEnd, StringDidNotEnd, DoubleAtInString, ControlTextDidNotEnd, FaultyConstant, IgnoredInCText, scanned}
use Rattle.std.specs.Fmt.{digits}
use Rattle.cweb_scan.proofs.ExampleWords.{web, word, number, literal, verbatim, punct, unnamed, fault, wanted}

record Computed : Type 0 where
  -- `/*/`, a doubled `@`, and a section start.
  comments_a_pair_a_section_start : scanned (web ("@ @c /*/ a */ b /*@*/ c" ∷ "@ @c // x@ y" ∷ "@ @c /* @" ∷ []))
      ≡ wanted [] (unnamed 1 1 (word "b" ∷ []) ∷ unnamed 3 2 [] ∷ unnamed 5 3 [] ∷ []) [] (fault CommentDidNotEnd 1 ∷
      fault CommentDidNotEnd 2 ∷ fault CommentDidNotEnd 3 ∷ []) 6 (2 ∷ [])
  a_line_comment_that_ends_its_line_with_sign : scanned (web ("@ @c // x@" ∷ "y" ∷ []))
      ≡ wanted [] (unnamed 1 1 [] ∷ []) [] (fault CommentDidNotEnd 1 ∷ []) 2 []
  -- Escapes, doubled and lone `@`.
  literals_escapes_pairs_lone_signs : scanned (web
      ("@ @c \"a\\\"b\" \"a\\@b\" \"a\\@@b\" '@' L\"@@\" u8'x' U\"y\" \"\\\\\"" ∷ "\"a\\" ∷ "b@c\"d \"e" ∷ []))
      ≡ wanted [] (unnamed 1 1 (literal "\"a\\\"b\"" ∷ literal "\"a\\@b\"" ∷ literal "\"a\\@b\"" ∷ literal "'@'" ∷
      literal "L\"@\"" ∷ literal "u8'x'" ∷ literal "U\"y\"" ∷ literal "\"\\\\\"" ∷ Newline ∷ literal "\"a\\\nb@c\"" ∷
      word "d" ∷ literal "\"e" ∷ []) ∷ []) [] (fault DoubleAtInString 1 ∷ fault DoubleAtInString 1 ∷ fault
      DoubleAtInString 3 ∷ fault StringDidNotEnd 3 ∷ []) 1 []
  a_literal_that_ends_with_backslash_at_the_end_of_the_text : scanned (web ("@ @c \"a\\" ∷ []))
      ≡ wanted [] (unnamed 1 1 (literal "\"a\\" ∷ []) ∷ []) [] (fault StringDidNotEnd 1 ∷ []) 1 []
  included_names : scanned (web ("@ @c" ∷ "# include <a@@b@c> <d>" ∷ "#include/*c*/<x@>" ∷ "#include <a" ∷
      "#include x <y>" ∷ "# a <b>" ∷ []))
      ≡ wanted [] (unnamed 1 1 (Newline ∷ punct "#" ∷ Blank ∷ word "include" ∷ Blank ∷ literal "<a@b@c>" ∷ Blank ∷ punct
      "<" ∷ word "d" ∷ punct ">" ∷ Newline ∷ punct "#" ∷ word "include" ∷ Blank ∷ literal "<x@>" ∷ Newline ∷ punct "#" ∷
      word "include" ∷ Blank ∷ punct "<" ∷ word "a" ∷ Newline ∷ punct "#" ∷ word "include" ∷ Blank ∷ word "x" ∷ Blank ∷
      punct "<" ∷ word "y" ∷ punct ">" ∷ Newline ∷ punct "#" ∷ Blank ∷ word "a" ∷ Blank ∷ punct "<" ∷ word "b" ∷ punct
      ">" ∷ []) ∷ []) [] (fault DoubleAtInString 2 ∷ fault DoubleAtInString 3 ∷ []) 1 []
  numbers_and_punctuators : scanned (web ("@ @c 1.5e+3-.5 0xe+1 1..2 a->*b...c..d ::e.*f <<=>>=1" ∷
      "@ @c $a_\u{80}b \u{80} #" ∷ [])) ≡ wanted [] (unnamed 1 1 (number "1.5e+3" ∷ punct "-" ∷ number ".5" ∷ number
      "0xe+1" ∷ number "1..2" ∷ word "a" ∷ punct "->*" ∷ word "b" ∷ punct "..." ∷ word "c" ∷ punct "." ∷ punct "." ∷
      word "d" ∷ punct "::" ∷ word "e" ∷ punct ".*" ∷ word "f" ∷ punct "<<=" ∷ punct ">>=" ∷ number "1" ∷ Newline ∷ [])
      ∷ unnamed 2 2 (word "$a_\u{80}b" ∷ word "\u{80}" ∷ punct "#" ∷ []) ∷ []) [] [] 2 []
  constants : scanned (web ("@ @c @'@@'@'\\n'@'\\101'@'\\400'@''@'\\''@'ab'@'\\x'@'\\1234'@' '@'\\0'" ∷ "@'@'@'\\\\'@'a"
      ∷ [])) ≡ wanted [] (unnamed 1 1 (number "64" ∷ number "10" ∷ number "65" ∷ number "39" ∷ number "32" ∷ number "0"
      ∷ Newline ∷ number "92" ∷ []) ∷ []) [] (fault FaultyConstant 1 ∷ fault FaultyConstant 1 ∷ fault FaultyConstant 1 ∷
      fault FaultyConstant 1 ∷ fault FaultyConstant 1 ∷ fault FaultyConstant 2 ∷ fault FaultyConstant 2 ∷ []) 1 []
  verbatim_text : scanned (web ("@ @c a@=v@@w@>b@=c@x@=d" ∷ "e" ∷ []))
      ≡ wanted [] (unnamed 1 1 (word "a" ∷ verbatim "v@w" ∷ word "b" ∷ Newline ∷ word "e" ∷ []) ∷ []) [] (fault
      ControlTextDidNotEnd 1 ∷ fault ControlTextDidNotEnd 1 ∷ []) 1 []
  control_texts : scanned (web ("@ @c @t a@@b@>c@^d" ∷ "@.e@f@:g@> h" ∷ "@q" ∷ []))
      ≡ wanted [] (unnamed 1 1 (word "c" ∷ Newline ∷ word "h" ∷ Newline ∷ []) ∷ []) [] (fault ControlTextDidNotEnd 1 ∷
      fault ControlTextDidNotEnd 2 ∷ fault IgnoredInCText 2 ∷ fault ControlTextDidNotEnd 3 ∷ []) 1 []

computed : Computed
unfolding digits
computed = search
