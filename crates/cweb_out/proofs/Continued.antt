-- Direct tokens of a macro: their output.
use Rattle.cweb_out.proofs.Common.{arith, Left, Stored, all_tokens, map, slice_get, replaced_in, left_after_token, ◌≡◌, ◌++◌, ◌∙◌, ℕ, Bool, true, false, cond, List, [], Option, None, Some, ap, refl, list_any, Token, Word, Number, Literal, Verbatim, Punct, Blank, Newline, TokenBytesModel, first_is, is_numeric, direct_bytes, punctuator_edge, continued_by, left_after_edge, edge_is_apart, added, continuation_bytes, macro_by, blank_where, is_high, plain_bytes, word_bytes, is_operator}
use Rattle.cweb_store.specs.declared.edges.Edge.TheVariants as edge_kind
use Rattle.cweb_out.proofs.DirectEdges.{apart-direct}
use Rattle.cweb_out.proofs.DirectPrinting.{leaves-direct}
use Rattle.cweb_out.proofs.Ranges.{at_index}
use Rattle.cweb_out.proofs.Steps.{sign-goes_on}
use Rattle.cweb_out.proofs.TokenReaderSteps.{BorrowsAt, direct-at}
use Rattle.cweb_out.specs.inner.Edges.{token_at}
use Rattle.cweb_out.proofs.Bytes.{ascii_word}

-- The bytes of an optional result.
abbrev continued_in : Option TokenBytesModel → List ℕ
continued_in None = []
continued_in (Some l) = continued_by l

word-continued : (replaced : ℕ → List ℕ) (b : List ℕ) (l : TokenBytesModel) (high : Bool) → list_any is_high b ≡ high
    → cond high None (Some (record { string = b; edge = edge_kind.Word })) ≡ Some l
    → word_bytes replaced b ≡ continued_by l
word-continued replaced b l true e h = cc
word-continued replaced b l false e h = ascii_word replaced b e ∙ ap continued_in h

sign-continued : (b : List ℕ) (l : TokenBytesModel) (high : Bool)
    → cond high None (Some (record { string = b; edge = punctuator_edge b })) ≡ Some l → b ≡ continued_by l
sign-continued b l true h = cc
sign-continued b l false h = grind (arith, sign-goes_on (first_is is_numeric b) (first_is is_operator b))

string-continued : (replaced : ℕ → List ℕ) (t : Token) (l : TokenBytesModel) → direct_bytes t ≡ Some l
    → continuation_bytes t ++ plain_bytes replaced t ≡ continued_by l
string-continued replaced (Word b) l h = word-continued replaced b l (list_any is_high b) refl h
string-continued replaced (Number b) l h = ap continued_in h
string-continued replaced (Literal b) l h = ap continued_in h
string-continued replaced (Verbatim b) l h = ap continued_in h
string-continued replaced (Punct b) l h = sign-continued b l (list_any is_high b) h
string-continued replaced Blank l h = ap continued_in h
string-continued replaced Newline l h = ap continued_in h
string-continued replaced _ l h = cc

-- A direct token of a store, where no join is open: its output, and the state after it.
module _ (w : Stored) (left : Left) (n : ℕ) (l : TokenBytesModel) (joined : left.joined ≡ false)
    (read : List (Option TokenBytesModel)) (reads : read ≡ map direct_bytes (all_tokens w.parts))
    (is : slice_get read n ≡ Some (Some l)) where
  at : BorrowsAt (all_tokens w.parts) n l
  at = direct-at read (all_tokens w.parts) n l reads is

  unjoined : left ≡ record { last = left.last; joined = false }
  unjoined = λ i. record { last = left.last; joined = joined i }

  pub direct_added : added (macro_by (replaced_in w)) left (token_at w n)
      ≡ blank_where (edge_is_apart left.last l.edge) ++ continued_by l
  direct_added = cc (
    unjoined,
    at_index w n at.token at.there,
    apart-direct left.last at.token l at.direct,
    string-continued (replaced_in w) at.token l at.direct,
  )

  pub direct_leaves : left_after_token left (token_at w n) ≡ left_after_edge l.edge
  direct_leaves = (λ i. left_after_token (unjoined i) (at_index w n at.token at.there i))
      ∙ leaves-direct left.last at.token l at.direct
