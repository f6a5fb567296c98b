-- Worked examples: directives and marks.
use Rattle.cweb_scan.proofs.Common.{◌≡◌, [], ◌∷◌, Blank, Newline, Join, Defs, Mark, scanned}
use Rattle.cweb_scan.proofs.ExampleWords.{web, line, at, word, literal, punct, mark, named, name, unnamed, wanted}

record Computed : Type 0 where
  a_double_number_sign_begins_no_directive : scanned (web ("@ @c" ∷ "##a b" ∷ "#a b" ∷ []))
      ≡ wanted [] (unnamed 1 1 (Newline ∷ punct "##" ∷ word "a" ∷ word "b" ∷ Newline ∷ punct "#" ∷ word "a" ∷ Blank ∷
      word "b" ∷ []) ∷ []) [] [] 1 []
  after_backslash_and_a_control_text_the_directive_goes_on : scanned (web ("@ @c" ∷ "#d \\@^x@>" ∷ " b" ∷ []))
      ≡ wanted [] (unnamed 1 1 (Newline ∷ punct "#" ∷ word "d" ∷ Blank ∷ punct "\\" ∷ Newline ∷ Blank ∷ word "b" ∷ []) ∷
      []) [] [] 1 []
  a_line_end_that_a_join_dropped_is_still_in_the_directive : scanned (web ("@ @c" ∷ "#d a" ∷ "@& b  c" ∷ "d" ∷ []))
      ≡ wanted [] (unnamed 1 1 (Newline ∷ punct "#" ∷ word "d" ∷ Blank ∷ word "a" ∷ Join ∷ Blank ∷ word "b" ∷ Blank ∷
      word "c" ∷ mark 4 ∷ word "d" ∷ []) ∷ []) [] [] 1 []
  a_join_at_a_directive_s_line_end_ends_it : scanned (web ("@ @c" ∷ "#d a@&" ∷ "b  c" ∷ [])) ≡ wanted [] (unnamed 1 1
      (Newline ∷ punct "#" ∷ word "d" ∷ Blank ∷ word "a" ∷ Join ∷ Newline ∷ word "b" ∷ word "c" ∷ []) ∷ []) [] [] 1 []
  a_use_and_a_mark_in_a_directive : scanned (web ("@ @c" ∷ "#d @<A@> x  y" ∷ "#e @h x  y" ∷ []))
      ≡ wanted (name "A" ∷ []) (unnamed 1 1 (Newline ∷ punct "#" ∷ word "d" ∷ Blank ∷ named 0 ∷ mark 2 ∷ word "x" ∷ word
      "y" ∷ Newline ∷ punct "#" ∷ word "e" ∷ Blank ∷ Defs ∷ mark 3 ∷ word "x" ∷ word "y" ∷ []) ∷ []) [] [] 1 []
  folded_directives : scanned (web ("@ @c" ∷ "#a /* b" ∷ "c */ d" ∷ "#a \\" ∷ "b" ∷ "#a \"x\\" ∷ "y\"" ∷ "e" ∷ []))
      ≡ wanted [] (unnamed 1 1 (Newline ∷ punct "#" ∷ word "a" ∷ Blank ∷ word "d" ∷ mark 4 ∷ punct "#" ∷ word "a" ∷
      Blank ∷ punct "\\" ∷ Newline ∷ word "b" ∷ mark 6 ∷ punct "#" ∷ word "a" ∷ Blank ∷ literal "\"x\\\ny\"" ∷ mark 8 ∷
      word "e" ∷ []) ∷ []) [] [] 1 []
  a_directive_only_after_a_line_end_or_a_mark : scanned (web ("@ @c #a b" ∷ "@<A@>#c d" ∷ "x#e f" ∷ "@h#g  h" ∷ []))
      ≡ wanted (name "A" ∷ []) (unnamed 1 1 (punct "#" ∷ word "a" ∷ Blank ∷ word "b" ∷ Newline ∷ named 0 ∷ mark 2 ∷
      punct "#" ∷ word "c" ∷ Blank ∷ word "d" ∷ Newline ∷ word "x" ∷ punct "#" ∷ word "e" ∷ word "f" ∷ Newline ∷ Defs ∷
      mark 4 ∷ punct "#" ∷ word "g" ∷ Blank ∷ word "h" ∷ []) ∷ []) [] [] 1 []
  marks_between_files_and_lines : scanned (line "@ @c a" (at 0 3) ∷ line "b" (at 0 4) ∷ line "/* c" (at 0 6) ∷ line
      "d */ e" (at 1 7) ∷ line "#f \\" (at 1 8) ∷ line "g" (at 0 9) ∷ line "h" (at 0 10) ∷ [])
      ≡ wanted [] (unnamed 1 3 (word "a" ∷ Newline ∷ word "b" ∷ mark 6 ∷ Mark (at 1 7) ∷ word "e" ∷ Newline ∷ punct "#"
      ∷ word "f" ∷ Blank ∷ punct "\\" ∷ Newline ∷ word "g" ∷ mark 10 ∷ word "h" ∷ []) ∷ []) [] [] 1 []
  a_backslash_that_is_the_last_token_before_a_line_of_another_place : scanned (line "@ @c" (at 0 1) ∷ line "#d \\@^x@>"
      (at 0 2) ∷ line " b" (at 0 5) ∷ []) ≡ wanted [] (unnamed 1 1 (Newline ∷ punct "#" ∷ word "d" ∷ Blank ∷ punct "\\"
      ∷ Newline ∷ Blank ∷ word "b" ∷ []) ∷ []) [] [] 1 []

computed : Computed
computed = search
