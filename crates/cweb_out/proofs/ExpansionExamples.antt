-- Worked examples of expansion and printing.
use Rattle.cweb_out.proofs.Common.{ℕ, ◌≡◌, [], ◌∷◌, ◌++◌, codes, true, Token, Word, Number, Punct, Blank, Newline, Join, Defs, Head, Tail, program, expand, Setting, print, file}
use Rattle.std.specs.Fmt.{digits}
use Rattle.cweb_out.proofs.PlanExamples.{two, twice}
use Rattle.cweb_store.specs.Parts.{Mark}
use Rattle.cweb_out.specs.laws.Laws.{section_comments}

abbrev semicolon : Token
semicolon = Punct (codes ";")

abbrev plain : Setting
plain = record { replaced = λ b. b ∷ []; files = codes "s.w" ∷ []; macros = [] }

abbrev at : ℕ → Token
at line = Mark (record { file = record { 0 = 0 }; line = line })

-- `f(x) x+1`, `N`, and `two 1+` on two lines.
abbrev with_macros : Setting
with_macros = record plain {
  macros = (Word (codes "f") ∷ Punct (codes "(") ∷ Word (codes "x") ∷ Punct
      (codes ")") ∷ Word (codes "x") ∷ Punct (codes "+") ∷ Number (codes "1") ∷ []) ∷ (Word (codes "N") ∷ [])
      ∷ (Word (codes "two") ∷ Blank ∷ Number (codes "1") ∷ Punct (codes "+") ∷ Newline ∷ Number (codes "2") ∷ []) ∷ [];
}

record Computed : Type 0 where
  each_use_is_replaced : expand twice 4 (program twice)
      ≡ semicolon ∷ semicolon ∷ semicolon ∷ semicolon ∷ semicolon ∷ semicolon ∷ semicolon ∷ semicolon ∷ []
  a_greater_depth_changes_nothing : expand twice 7 (program twice) ≡ expand twice 3 (program twice)
  a_depth_below_the_rank_drops_tokens : expand twice 2 (program twice) ≡ []
  a_section_comment_stays_after_a_join : print plain (Punct (codes "/") ∷ Join ∷ Head 2 ∷ at 3 ∷ Word (codes "b") ∷ [])
      ≡ codes "/ /*2:*/b"
  section_comments_after_a_join : section_comments plain true (Newline ∷ Head 2 ∷ at 3 ∷ Join ∷ Tail 2 ∷ at 2 ∷ [])
      ≡ codes " /*2:*/ /*:2*/"
  only_they_come_between_joined_tokens : print plain (Word (codes "a") ∷ Join ∷ Newline ∷ Head 2 ∷ at 3 ∷ Join ∷ Tail 2
      ∷ at 2 ∷ Word (codes "b") ∷ []) ≡ codes "a /*2:*/ /*:2*/b"
  operators_and_numbers_stay_apart : file plain (Head 1 ∷ at 1 ∷ Newline ∷ Word (codes "x") ∷ Punct
      (codes "=") ∷ Blank ∷ Punct (codes "-") ∷ Number (codes "1") ∷ semicolon ∷ Word (codes "a") ∷ Punct (codes "*")
      ∷ Punct (codes "-") ∷ Word (codes "b") ∷ semicolon ∷ Word (codes "y") ∷ Punct (codes "=") ∷ Number (codes "0xe")
      ∷ Punct (codes "+") ∷ Number (codes "1") ∷ semicolon ∷ Word (codes "q") ∷ Punct (codes "=") ∷ Word (codes "a")
      ∷ Punct (codes "/") ∷ Head 2 ∷ at 3 ∷ Word (codes "b") ∷ Tail 2 ∷ at 2 ∷ semicolon ∷ Newline ∷ Tail 1 ∷ [])
      ≡ codes "/*1:*/\n#line 1 \"s.w\"\n\nx= -1;a* -b;y=0xe +1;q=a/ /*2:*/\n"
      ++ codes "#line 3 \"s.w\"\nb/*:2*/\n#line 2 \"s.w\"\n;\n/*:1*/\n"
  macro_lines_begin_a_line : print with_macros (semicolon ∷ Defs ∷ semicolon ∷ [])
      ≡ codes ";\n#define f(x)x+1\n#define N\n#define two 1 + \\\n2\n;"
  file_names_are_quoted : print (record plain { files = codes "a\"\\b" ∷ [] }) (at 7 ∷ [])
      ≡ codes "#line 7 \"a\\\"\\\\b\"\n"
  an_empty_list_gives_an_empty_file : file plain [] ≡ []

computed : Computed
unfolding digits
computed = search
