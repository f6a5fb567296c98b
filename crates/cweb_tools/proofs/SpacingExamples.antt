-- Worked examples of the law of blanks, and tokens that satisfy its premise.
use Rattle.cweb_tools.proofs.Common.{◌++◌, ◌≡◌, List, [], ◌∷◌, refl, codes, empty, with_open, Token, Word, Number, Literal, Punct, Blank, Newline, Head, Tail, significant, Quoted, Numeral, Punctuator, Code, CText, EmitAt, Closed, Reading, ReadsAlone, InPlainC, doubled, start_state, open_part_tokens, Setting, print}
use Rattle.std.specs.Fmt.{digits}
use Rattle.cweb_store.specs.declared.parts.PartKind.TheVariants as part
use Rattle.cweb_scan.specs.Lexemes.{lex}

abbrev in_c_part : Reading
in_c_part =
    record {
      state = record (start_state (record { file = record { 0 = 0 }; line = 1 }))
          { context = CText; contents = with_open part.Unnamed empty };
      later = [];
    }

plain : InPlainC in_c_part.state
plain =
    record { part = record { kind = part.Unnamed; tokens = [] }; open_part = refl; in_c = refl; no_directive = refl }

abbrev settled : Setting
settled = record { replaced = λ b. []; files = []; macros = [] }

abbrev reread : List Token → List Token
reread ts = open_part_tokens (lex in_c_part (doubled (print settled ts))).state

abbrev row : List Token
row = Number (codes "0xe") ∷ Punct (codes "+") ∷ Number (codes "1") ∷ Punct (codes ".") ∷ Number (codes ".5") ∷ Literal
    (codes "\"a\"") ∷ Literal (codes "R\"(b)\"") ∷ Word (codes "R") ∷ Literal (codes "\"(c)\"") ∷ []

abbrev signs : List Token
signs = Punct (codes "@") ∷ Word
    (codes "d") ∷ Punct (codes "-") ∷ Punct (codes "->") ∷ Punct (codes ".") ∷ Punct (codes "...") ∷ []

-- Tokens that read alone.
number : ReadsAlone (Number (codes "0xe+"))
number = record { kind = Numeral; whole = refl; token = refl }

at : ReadsAlone (Punct (codes "@"))
at = record { kind = Code EmitAt; whole = refl; token = refl }

backslash : ReadsAlone (Punct (codes "\\"))
backslash = record { kind = Punctuator; whole = refl; token = refl }

null : ReadsAlone (Punct (0 ∷ []))
null = record { kind = Punctuator; whole = refl; token = refl }

two_lines : ReadsAlone (Literal (34 ∷ 64 ∷ 92 ∷ 10 ∷ 34 ∷ []))
two_lines =
    record {
      kind = Quoted ((34 ∷ []) ∷ (64 ∷ 64 ∷ []) ∷ (92 ∷ 10 ∷ []) ∷ (34 ∷ []) ∷ []) Closed;
      whole = refl;
      token = refl;
    }

-- A raw literal with a newline and an `@`.
raw : ReadsAlone (Literal (codes "R\"(" ++ 10 ∷ 64 ∷ codes ")\""))
raw =
    record {
      kind = Quoted (codes "R\"(" ∷ (10 ∷ []) ∷ codes "@@" ∷ codes ")\"" ∷ []) Closed;
      whole = refl;
      token = refl;
    }

record Computed : Type 0 where
  row_printed : print settled row ≡ codes "0xe +1 . .5 \"a\"R\"(b)\" R \"(c)\""
  row_read : reread row ≡ row
  -- Words, numbers, literals and punctuators count, layout and section comments don't.
  all_count : significant row ≡ row
  some_count : significant (Blank ∷ Punct (codes "/") ∷ Head 1 ∷ Newline ∷ Tail 1 ∷ Word (codes "x") ∷ [])
      ≡ Punct (codes "/") ∷ Word (codes "x") ∷ []
  comment_printed : print settled (Punct (codes "/") ∷ Head 1 ∷ Punct (codes "*") ∷ []) ≡ codes "/ /*1:*/*"
  comment_read : reread (Punct (codes "/") ∷ Head 1 ∷ Punct (codes "*") ∷ [])
      ≡ Punct (codes "/") ∷ Punct (codes "*") ∷ []
  signs_read : reread signs ≡ signs

computed : Computed
unfolding digits
computed = search
