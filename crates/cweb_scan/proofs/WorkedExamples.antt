-- Worked examples: webs of all kinds.
use Rattle.cweb_scan.proofs.Common.{◌≡◌, [], ◌∷◌, Blank, Newline, Join, Defs, Mark, StringDidNotEnd, scanned}
use Rattle.std.specs.Fmt.{digits}
use Rattle.cweb_scan.proofs.ExampleWords.{web, line, at, word, number, literal, verbatim, punct, mark, named, name, file, prefix, macro, unnamed, named_part, repl, fault, wanted}

record Computed : Type 0 where
  two_sections : scanned (web ("@ Hello." ∷ "@c" ∷ "#include <stdio.h>" ∷ "int main(void) { @<Greet@> return 0; }" ∷
      "@ @<Greet@>=" ∷ "puts(\"hi\");" ∷ []))
      ≡ wanted (name "Greet" ∷ name "Greet" ∷ []) (unnamed 1 2 (Newline ∷ punct "#" ∷ word "include" ∷ Blank ∷ literal
      "<stdio.h>" ∷ Newline ∷ word "int" ∷ word "main" ∷ punct "(" ∷ word "void" ∷ punct ")" ∷ punct "{" ∷ named 0 ∷
      mark 4 ∷ word "return" ∷ number "0" ∷ punct ";" ∷ punct "}" ∷ Newline ∷ []) ∷ named_part 1 2 5 (Newline ∷ word
      "puts" ∷ punct "(" ∷ literal "\"hi\"" ∷ punct ")" ∷ punct ";" ∷ []) ∷ []) [] [] 2 []
  operators_side_by_side : scanned (web ("@ @c" ∷ "x= -1; a*-b; y=0xe + 1; q=a/@<X@>;" ∷ "@ @<X@>= b" ∷ []))
      ≡ wanted (name "X" ∷ name "X" ∷ []) (unnamed 1 1 (Newline ∷ word "x" ∷ punct "=" ∷ punct "-" ∷ number "1" ∷ punct
      ";" ∷ word "a" ∷ punct "*" ∷ punct "-" ∷ word "b" ∷ punct ";" ∷ word "y" ∷ punct "=" ∷ number "0xe" ∷ punct "+" ∷
      number "1" ∷ punct ";" ∷ word "q" ∷ punct "=" ∷ word "a" ∷ punct "/" ∷ named 0 ∷ mark 2 ∷ punct ";" ∷ Newline ∷
      []) ∷ named_part 1 2 3 (word "b" ∷ []) ∷ []) [] [] 2 []
  macros : scanned (web ("@ Macros." ∷ "@d f(x) x+1" ∷ "@d g (x)" ∷ "@d N" ∷ "@d two 1+" ∷ "  2" ∷ "@c" ∷ "f(3)" ∷ []))
      ≡ wanted [] (macro (word "f" ∷ punct "(" ∷ word "x" ∷ punct ")" ∷ word "x" ∷ punct "+" ∷ number "1" ∷ []) ∷ macro
      (word "g" ∷ Blank ∷ punct "(" ∷ word "x" ∷ punct ")" ∷ []) ∷ macro (word "N" ∷ []) ∷ macro (word "two" ∷ Blank ∷
      number "1" ∷ punct "+" ∷ Newline ∷ number "2" ∷ []) ∷ unnamed 1 7 (Newline ∷ word "f" ∷ punct "(" ∷ number "3" ∷
      punct ")" ∷ []) ∷ []) [] [] 1 []
  macros_at_a_code : scanned (web ("@ Macros." ∷ "@d f(x) x+1" ∷ "@d g (x)" ∷ "@d N" ∷ "@d two 1+" ∷ "  2" ∷ "@c" ∷
      "@h f(3)" ∷ [])) ≡ wanted [] (macro (word "f" ∷ punct "(" ∷ word "x" ∷ punct ")" ∷ word "x" ∷ punct "+" ∷ number
      "1" ∷ []) ∷ macro (word "g" ∷ Blank ∷ punct "(" ∷ word "x" ∷ punct ")" ∷ []) ∷ macro (word "N" ∷ []) ∷ macro (word
      "two" ∷ Blank ∷ number "1" ∷ punct "+" ∷ Newline ∷ number "2" ∷ []) ∷ unnamed 1 7 (Newline ∷ Defs ∷ mark 8 ∷ word
      "f" ∷ punct "(" ∷ number "3" ∷ punct ")" ∷ []) ∷ []) [] [] 1 []
  joins_constants_and_verbatim_text : scanned (web ("@ @c" ∷ "foo@&" ∷ "bar @'a' @'\\t' @=a  b@> für" ∷ []))
      ≡ wanted [] (unnamed 1 1 (Newline ∷ word "foo" ∷ Join ∷ Newline ∷ word "bar" ∷ number "97" ∷ number "9" ∷ verbatim
      "a  b" ∷ word "für" ∷ []) ∷ []) [] [] 1 []
  a_letter_with_a_replacement : scanned (web ("@l fc ue" ∷ "@ @c" ∷ "foo@&" ∷ "bar @'a' @'\\t' @=a  b@> für" ∷ []))
      ≡ wanted [] (unnamed 1 2 (Newline ∷ word "foo" ∷ Join ∷ Newline ∷ word "bar" ∷ number "97" ∷ number "9" ∷ verbatim
      "a  b" ∷ word "für" ∷ []) ∷ []) (repl 252 "ue" ∷ []) [] 1 []
  a_file_and_a_literal_that_did_not_end : scanned (web ("@ @d M 1" ∷ "@(a.h@>=" ∷ "int m=\"x" ∷ []))
      ≡ wanted (file "a.h" ∷ []) (macro (word "M" ∷ Blank ∷ number "1" ∷ []) ∷ named_part 0 1 2 (Newline ∷ word "int" ∷
      word "m" ∷ punct "=" ∷ literal "\"x" ∷ []) ∷ []) [] (fault StringDidNotEnd 3 ∷ []) 1 []
  a_directive_over_a_comment : scanned (web ("@ @c" ∷ "#define A /* one" ∷ "two */ 1" ∷ "int b; // end" ∷ "/*" ∷ "*/ c;"
      ∷ [])) ≡ wanted [] (unnamed 1 1 (Newline ∷ punct "#" ∷ word "define" ∷ Blank ∷ word "A" ∷ Blank ∷ number "1" ∷
      mark 4 ∷ word "int" ∷ word "b" ∷ punct ";" ∷ Newline ∷ Newline ∷ word "c" ∷ punct ";" ∷ []) ∷ []) [] [] 1 []
  a_directive_over_a_backslash : scanned (web ("@ @c" ∷ "#define A \\" ∷ "1" ∷ "int b; // end" ∷ "/*" ∷ "*/ c;" ∷ []))
      ≡ wanted [] (unnamed 1 1 (Newline ∷ punct "#" ∷ word "define" ∷ Blank ∷ word "A" ∷ Blank ∷ punct "\\" ∷ Newline ∷
      number "1" ∷ mark 4 ∷ word "int" ∷ word "b" ∷ punct ";" ∷ Newline ∷ Newline ∷ word "c" ∷ punct ";" ∷ []) ∷ []) []
      [] 1 []
  an_abbreviation : scanned (web ("@ @c" ∷ "@<Glob...@>" ∷ "@ @<Global variables@>=" ∷ "int g;" ∷ []))
      ≡ wanted (prefix "Glob" ∷ name "Global variables" ∷ []) (unnamed 1 1 (Newline ∷ named 0 ∷ mark 2 ∷ Newline ∷ []) ∷
      named_part 1 2 3 (Newline ∷ word "int" ∷ word "g" ∷ punct ";" ∷ []) ∷ []) [] [] 2 []
  a_name_with_two_parts : scanned (web ("@ @c @<A@>" ∷ "@ @<A@>= a;" ∷ "@ @<A@>+= b;" ∷ []))
      ≡ wanted (name "A" ∷ name "A" ∷ name "A" ∷ []) (unnamed 1 1 (named 0 ∷ mark 1 ∷ Newline ∷ []) ∷ named_part 1 2 2
      (word "a" ∷ punct ";" ∷ Newline ∷ []) ∷ named_part 2 3 3 (word "b" ∷ punct ";" ∷ []) ∷ []) [] [] 3 []
  lines_of_two_files : scanned (line "@ @c" (at 0 1) ∷ line "a;" (at 0 2) ∷ line "B;" (at 1 4) ∷ line "c;" (at 0 4) ∷
      []) ≡ wanted [] (unnamed 1 1 (Newline ∷ word "a" ∷ punct ";" ∷ Mark (at 1 4) ∷ word "B" ∷ punct ";" ∷ mark 4 ∷
      word "c" ∷ punct ";" ∷ []) ∷ []) [] [] 1 []
  a_file_named_like_the_main_one : scanned (web ("@ @(h.c@>= x" ∷ []))
      ≡ wanted (file "h.c" ∷ []) (named_part 0 1 1 (word "x" ∷ []) ∷ []) [] [] 1 []
  a_file_without_a_name : scanned (web ("@ @(@>= x" ∷ []))
      ≡ wanted (file "" ∷ []) (named_part 0 1 1 (word "x" ∷ []) ∷ []) [] [] 1 []
  an_empty_web : scanned [] ≡ wanted [] [] [] [] 0 []

computed : Computed
unfolding digits
computed = search
