-- Direct tokens: the state after them, and their output.
use Rattle.std.proofs.Common.{arith}
use Rattle.cweb_out.proofs.Common.{◌≡◌, ◌++◌, ◌∙◌, ap, sym, refl, Bool, true, false, cond, ℕ, List, [], ◌∷◌, Option, Some, None, list_any, Token, Word, Punct, Join, Setting, print, stays_joined, word_bytes, left_after_edge, edge_is_apart, left_after_token, added, file_by, left_after_tokens, is_high, direct_bytes, blank_where, Edge, TokenBytesModel, punctuator_edge}
use Rattle.cweb_store.specs.declared.edges.Edge.TheVariants as edge_kind
use Rattle.cweb_out.proofs.Bytes.{ascii_word}
use Rattle.cweb_out.proofs.DirectEdges.{apart-direct, edge-direct}
use Rattle.cweb_out.proofs.Steps.{print-push}

-- The bytes of an optional result.
abbrev string_in : Option TokenBytesModel → List ℕ
string_in None = []
string_in (Some l) = l.string

word-direct : (replaced : ℕ → List ℕ) (b : List ℕ) (l : TokenBytesModel) (high : Bool) → list_any is_high b ≡ high
    → cond high None (Some (record { string = b; edge = edge_kind.Word })) ≡ Some l
    → word_bytes replaced b ≡ l.string
word-direct replaced b l true e h = cc
word-direct replaced b l false e h = ascii_word replaced b e ∙ ap string_in h

sign-direct : (b : List ℕ) (d : Edge) (l : TokenBytesModel) (high : Bool)
    → cond high None (Some (record { string = b; edge = d })) ≡ Some l → b ≡ l.string
sign-direct b d l true h = cc
sign-direct b d l false h = ap string_in h

file-direct : (s : Setting) (c : Edge) (t : Token) (l : TokenBytesModel) → direct_bytes t ≡ Some l
    → file_by s c t ≡ l.string
file-direct s c (Word b) l h = word-direct s.replaced b l (list_any is_high b) refl h
file-direct s c (Punct b) l h = sign-direct b (punctuator_edge b) l (list_any is_high b) h
file-direct s c _ l h = cc

closes-direct : (t : Token) (l : TokenBytesModel) → direct_bytes t ≡ Some l → stays_joined false t ≡ false
closes-direct Join l h = cc
closes-direct _ l h = refl

pub leaves-direct : (c : Edge) (t : Token) (l : TokenBytesModel) → direct_bytes t ≡ Some l
    → left_after_token (record { last = c; joined = false }) t ≡ left_after_edge l.edge
leaves-direct c t l h = λ i. record { last = sym (edge-direct t l h) i; joined = closes-direct t l h i }

added-direct : (s : Setting) (last : Edge) (t : Token) (l : TokenBytesModel) → direct_bytes t ≡ Some l
    → added (file_by s) (left_after_edge last) t
    ≡ blank_where (edge_is_apart last l.edge) ++ l.string
added-direct s last t l h = grind (arith, apart-direct, file-direct)

-- One more direct token.
pub print-direct : (s : Setting) (last : Edge) (ts : List Token) (t : Token) (l : TokenBytesModel)
    → left_after_tokens ts ≡ left_after_edge last → direct_bytes t ≡ Some l
    → print s (ts ++ t ∷ []) ≡ print s ts ++ (blank_where (edge_is_apart last l.edge) ++ l.string)
print-direct s last ts t l is h =
    print-push s (left_after_edge last) ts t is ∙ ap (λ (u : List ℕ). print s ts ++ u) (added-direct s last t l h)
