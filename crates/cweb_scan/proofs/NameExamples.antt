-- Worked examples: names of sections.
use Rattle.cweb_scan.proofs.Common.{◌≡◌, [], ◌∷◌, Newline, NameDidNotEnd, NamesDoNotNest, MissingAt, scanned}
use Rattle.cweb_scan.proofs.ExampleWords.{web, word, punct, mark, named, name, file, prefix, unnamed, named_part, fault, wanted}

record Computed : Type 0 where
  a_faulty_use_ends_on_the_line_of_the_sign_that_ends_it : scanned (web ("@ @c @<A" ∷ "@<B@>" ∷ []))
      ≡ wanted (name "A" ∷ name "B" ∷ []) (unnamed 1 1 (named 0 ∷ mark 2 ∷ named 1 ∷ mark 2 ∷ []) ∷ []) [] (fault
      NamesDoNotNest 1 ∷ []) 1 []
  -- At the end of the source, after an empty line.
  at_the_end_of_the_text_after_an_empty_line : scanned (web ("@ @c @<A" ∷ "" ∷ []))
      ≡ wanted (name "A" ∷ []) (unnamed 1 1 (named 0 ∷ mark 2 ∷ []) ∷ []) [] (fault NameDidNotEnd 1 ∷ []) 1 []
  only_blanks_and_tabs_stand_before_an_opener_sign : scanned (web ("@ @<A@>\r= x" ∷ "@ @<A@> \t+= y" ∷ []))
      ≡ wanted (name "A" ∷ name "A" ∷ []) (named_part 1 2 2 (word "y" ∷ []) ∷ []) [] [] 2 []
  -- Squeezed blanks, `@@`, other codes, and abbreviations.
  names_white_doubled_signs_other_codes_abbreviations : scanned (web
      ("@ @< A  \tb @> @<a@@b@> @<a@\rb@> @<...@> @<abc...@> @<a b ...@>" ∷ []))
      ≡ wanted (name "A b" ∷ name "a@b" ∷ name "a@ b" ∷ name "..." ∷ prefix "abc" ∷ prefix "a b " ∷ []) [] [] [] 1 []
  a_name_over_lines : scanned (web ("@ @<Foo" ∷ "  bar@>= x" ∷ "@<Foo" ∷ "bar@>y" ∷ [])) ≡ wanted (name "Foo bar" ∷ name
      "Foo bar" ∷ []) (named_part 0 1 2 (word "x" ∷ Newline ∷ named 1 ∷ mark 4 ∷ word "y" ∷ []) ∷ []) [] [] 1 []
  -- Nested names, and openers of parts.
  names_that_don_t_nest_and_signs : scanned (web ("@ @<A@(b@>= x" ∷ "@ @<A@> =b" ∷ "@ @<A@>+==b" ∷ "@ @<A@>==b" ∷ []))
      ≡ wanted (name "A" ∷ file "b" ∷ name "A" ∷ name "A" ∷ name "A" ∷ []) (named_part 1 1 1 (word "x" ∷ Newline ∷ []) ∷
      named_part 2 2 2 (word "b" ∷ Newline ∷ []) ∷ []) [] (fault NamesDoNotNest 1 ∷ []) 4 []
  -- A part opener in C text.
  a_sign_in_c_text : scanned (web ("@ @c @<A@> += @(f@>=x" ∷ "y" ∷ []))
      ≡ wanted (name "A" ∷ file "f" ∷ []) (unnamed 1 1 (named 0 ∷ mark 1 ∷ punct "+=" ∷ named 1 ∷ mark 1 ∷ punct "=" ∷
      word "x" ∷ Newline ∷ word "y" ∷ []) ∷ []) [] (fault MissingAt 1 ∷ fault MissingAt 1 ∷ []) 1 []
  a_file_name_and_its_part : scanned (web ("@ @(a.h@>=x" ∷ "@ @<a.h@>=y" ∷ "@ @(b.h@>" ∷ []))
      ≡ wanted (file "a.h" ∷ name "a.h" ∷ file "b.h" ∷ []) (named_part 0 1 1 (word "x" ∷ Newline ∷ []) ∷ named_part 1 2
      2 (word "y" ∷ Newline ∷ []) ∷ []) [] [] 3 []

computed : Computed
computed = search
