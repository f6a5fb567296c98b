-- Worked examples: raw literals and long transliterations.
use Rattle.cweb_scan.proofs.Common.{◌≡◌, [], ◌∷◌, Blank, Newline, Join, ReplacementTooLong, StringDidNotEnd, DoubleAtInString, DefinitionDropped, scanned}
use Rattle.cweb_scan.proofs.ExampleWords.{web, word, number, literal, punct, mark, macro, unnamed, repl, fault, wanted}

record Computed : Type 0 where
  two_raw_literals : scanned (web ("@ @c" ∷ "s=R\"d(a\"b @@" ∷ "c)d\"; t=R\"x" ∷ []))
      ≡ wanted [] (unnamed 1 1 (Newline ∷ word "s" ∷ punct "=" ∷ literal "R\"d(a\"b @\nc)d\"" ∷ punct ";" ∷ word "t" ∷
      punct "=" ∷ word "R" ∷ literal "\"x" ∷ []) ∷ []) [] (fault StringDidNotEnd 3 ∷ []) 1 []
  a_raw_literal_cut_by_a_section : scanned (web ("@ @c R\"(a" ∷ "@ @c b" ∷ [])) ≡ wanted [] (unnamed 1 1 (literal
      "R\"(a\n" ∷ []) ∷ unnamed 2 2 (word "b" ∷ []) ∷ []) [] (fault StringDidNotEnd 1 ∷ []) 2 []
  a_replacement_of_31_letters : scanned (web ("@l fc xxxxxxxxxxxxxxxxxxxxxxxxxxxxxxx" ∷ []))
      ≡ wanted [] [] (repl 252 "xxxxxxxxxxxxxxxxxxxxxxxxxxxxxxx" ∷ []) [] 0 []
  a_replacement_of_32_letters : scanned (web ("@l fc xxxxxxxxxxxxxxxxxxxxxxxxxxxxxxxx" ∷ []))
      ≡ wanted [] [] [] (fault ReplacementTooLong 1 ∷ []) 0 []
  raw_delimiter_16 : scanned (web ("@ @c R\"0123456789abcdef()0123456789abcdef\"" ∷ []))
      ≡ wanted [] (unnamed 1 1 (literal "R\"0123456789abcdef()0123456789abcdef\"" ∷ []) ∷ []) [] [] 1 []
  -- A delimiter of 17 bytes, which is too long.
  raw_delimiter_17 : scanned (web ("@ @c R\"0123456789abcdefg()0123456789abcdefg\"" ∷ []))
      ≡ wanted [] (unnamed 1 1 (word "R" ∷ literal "\"0123456789abcdefg()0123456789abcdefg\"" ∷ []) ∷ []) [] [] 1 []
  raw_prefixes : scanned (web ("@ @c u8R\"(a)\" LR\"(b)\" uR\"()\" UR\"()\" lR\"()\" u8LR\"()\" 1R\"()\"" ∷ []))
      ≡ wanted [] (unnamed 1 1 (literal "u8R\"(a)\"" ∷ literal "LR\"(b)\"" ∷ literal "uR\"()\"" ∷ literal "UR\"()\"" ∷
      word "lR" ∷ literal "\"()\"" ∷ word "u8LR" ∷ literal "\"()\"" ∷ number "1R" ∷ literal "\"()\"" ∷ []) ∷ []) [] [] 1
      []
  -- `@` in it, and right before its closer.
  raw_at : scanned (web ("@ @c R\"(a@@b@c" ∷ "d@)\"" ∷ [])) ≡ wanted [] (unnamed 1 1 (literal "R\"(a@b@c\nd@)\"" ∷ []) ∷
      []) [] (fault DoubleAtInString 1 ∷ fault DoubleAtInString 2 ∷ []) 1 []
  -- Newlines inside, in a macro.
  raw_macro : scanned (web ("@ @d M R\"(a\\" ∷ "b\\" ∷ ")\"\\" ∷ "1" ∷ []))
      ≡ wanted [] (macro (word "M" ∷ Blank ∷ literal "R\"(a\\\nb\\\n)\"" ∷ Newline ∷ number "1" ∷ []) ∷ []) [] [] 1 []
  raw_head : scanned (web ("@ @d R\"(a)\" @d LR\"(b)\" @d R\"a" ∷ [])) ≡ wanted [] (macro (word "R" ∷ Blank ∷ literal
      "\"a" ∷ []) ∷ []) [] (fault DefinitionDropped 1 ∷ fault DefinitionDropped 1 ∷ fault StringDidNotEnd 1 ∷ []) 1 []
  -- A newline inside, in a directive.
  raw_directive : scanned (web ("@ @c" ∷ "#d R\"(a" ∷ ")\"  b" ∷ "c" ∷ [])) ≡ wanted [] (unnamed 1 1 (Newline ∷ punct
      "#" ∷ word "d" ∷ Blank ∷ literal "R\"(a\n)\"" ∷ Blank ∷ word "b" ∷ mark 4 ∷ word "c" ∷ []) ∷ []) [] [] 1 []
  raw_include : scanned (web ("@ @c" ∷ "#include R\"(a" ∷ "<x>)\" <y>" ∷ []))
      ≡ wanted [] (unnamed 1 1 (Newline ∷ punct "#" ∷ word "include" ∷ Blank ∷ literal "R\"(a\n<x>)\"" ∷ Blank ∷ punct
      "<" ∷ word "y" ∷ punct ">" ∷ []) ∷ []) [] [] 1 []
  -- Bytes that almost match the closer.
  raw_near_end : scanned (web ("@ @c R\"d(a)d )\"d\" )d" ∷ "\"" ∷ []))
      ≡ wanted [] (unnamed 1 1 (literal "R\"d(a)d )\"d\" )d\n\"" ∷ []) ∷ []) [] (fault StringDidNotEnd 1 ∷ []) 1 []
  -- A join drops no part of it.
  raw_join : scanned (web ("@ @c R\"(a" ∷ ")\"@&R\"()\"" ∷ []))
      ≡ wanted [] (unnamed 1 1 (literal "R\"(a\n)\"" ∷ Join ∷ literal "R\"()\"" ∷ []) ∷ []) [] [] 1 []
  -- Cut at the end of the source.
  raw_end : scanned (web ("@ @c R\"x(a@" ∷ []))
      ≡ wanted [] (unnamed 1 1 (literal "R\"x(a" ∷ []) ∷ []) [] (fault StringDidNotEnd 1 ∷ []) 2 []
  raw_opener_alone : scanned (web ("@ @c R\"x(" ∷ []))
      ≡ wanted [] (unnamed 1 1 (literal "R\"x(" ∷ []) ∷ []) [] (fault StringDidNotEnd 1 ∷ []) 1 []
  -- The opener is cut.
  raw_no_opener : scanned (web ("@ @c R\"x" ∷ []))
      ≡ wanted [] (unnamed 1 1 (word "R" ∷ literal "\"x" ∷ []) ∷ []) [] (fault StringDidNotEnd 1 ∷ []) 1 []
  -- A newline in the delimiter.
  raw_line_end : scanned (web ("@ @c R\"x" ∷ "(a)x\"" ∷ []))
      ≡ wanted [] (unnamed 1 1 (word "R" ∷ literal "\"x" ∷ Newline ∷ punct "(" ∷ word "a" ∷ punct ")" ∷ word "x" ∷
      literal "\"" ∷ []) ∷ []) [] (fault StringDidNotEnd 1 ∷ fault StringDidNotEnd 2 ∷ []) 1 []
  -- A starred section start inside.
  raw_section_star : scanned (web ("@ @d M R\"(a@*b)\" @c x" ∷ [])) ≡ wanted [] (macro (word "M" ∷ Blank ∷ literal
      "R\"(a" ∷ []) ∷ unnamed 2 1 (word "x" ∷ []) ∷ []) [] (fault StringDidNotEnd 1 ∷ []) 2 (2 ∷ [])

computed : Computed
computed = search
