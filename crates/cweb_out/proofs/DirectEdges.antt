-- The edges of tokens, and the blanks before them.
use Rattle.cweb_out.proofs.Common.{arith, ◌≡◌, ◌==◌, ◌∙◌, ℕ, Bool, true, false, cond, ◌||◌, ◌&&◌, not, List, [], ◌∷◌, Option, None, Some, refl, ap, sym, list_any, eqb-true, Token, Word, Number, Literal, Verbatim, Punct, Blank, Newline, Head, Tail, is_comment, Edge, TokenBytesModel, first_is, is_numeric, direct_bytes, punctuator_edge, punctuator_edge_by, edge_is_apart, edge_is_glue, edge_is_literal, edge_is_number, edge_is_operator, edge_is_point, edge_is_wordlike, edge_of, is_apart, is_high, is_operator}
use Rattle.cweb_store.specs.declared.edges.Edge.TheVariants as edge_kind

-- The edge of an optional result.
abbrev edge_in : Option TokenBytesModel → Edge
edge_in None = edge_kind.Unknown
edge_in (Some l) = l.edge

stored_edge : (b : List ℕ) (d : Edge) (l : TokenBytesModel) (high : Bool)
    → cond high None (Some (record { string = b; edge = d })) ≡ Some l → l.edge ≡ d
stored_edge b d l true h = cc
stored_edge b d l false h = ap edge_in (sym h)

pub edge-direct : (t : Token) (l : TokenBytesModel) → direct_bytes t ≡ Some l → l.edge ≡ edge_of (Some t)
edge-direct (Word b) l h = stored_edge b edge_kind.Word l (list_any is_high b) h
edge-direct (Punct b) l h = stored_edge b (punctuator_edge b) l (list_any is_high b) h
edge-direct (Number b) l h = ap edge_in (sym h)
edge-direct (Literal b) l h = ap edge_in (sym h)
edge-direct (Verbatim b) l h = ap edge_in (sym h)
edge-direct Blank l h = ap edge_in (sym h)
edge-direct Newline l h = ap edge_in (sym h)
edge-direct _ l h = cc

word-apart : (e : Edge) (b : List ℕ) → is_apart e (Word b) ≡ edge_is_apart e edge_kind.Word
word-apart edge_kind.Word b = refl
word-apart _ b = refl

number-apart : (e : Edge) (b : List ℕ) → is_apart e (Number b) ≡ edge_is_apart e edge_kind.Number
number-apart edge_kind.Word b = refl
number-apart _ b = refl

literal-apart : (e : Edge) (b : List ℕ) → is_apart e (Literal b) ≡ edge_is_apart e edge_kind.Literal
literal-apart edge_kind.Word b = refl
literal-apart _ b = refl

none-apart : (e : Edge) → is_apart e Blank ≡ false
none-apart edge_kind.Word = refl
none-apart _ = refl

-- Whether a blank comes before a punctuator, from two tests of its first byte.
abbrev before_sign : Edge → Bool → Bool → Bool
before_sign c s o = (edge_is_wordlike c && false && not (edge_is_literal c && false))
    || (edge_is_number c && s)
    || (edge_is_point c && false)
    || (edge_is_operator c && (o || false))
    || (edge_is_glue c && false)

abbrev before_edge : Edge → Bool → Bool → Bool
before_edge c s o = cond s (edge_is_number c || edge_is_operator c) (cond o (edge_is_operator c) false)

sign-first : (c : Edge) (s o p q : Bool) → before_edge c s o ≡ edge_is_apart c (punctuator_edge_by s o p q)
sign-first c true o false false = refl
sign-first c false true false false = refl
sign-first c false false false false = refl
sign-first c _ _ _ _ = refl

sign-known : (c : Edge) (s o : Bool) → (s ≡ true → o ≡ true) → before_sign c s o ≡ before_edge c s o
sign-known c true false h = let no : false ≡ true = h refl in cc
sign-known edge_kind.Word true true h = refl
sign-known edge_kind.Word false true h = refl
sign-known edge_kind.Word false false h = refl
sign-known _ true true h = refl
sign-known _ false true h = refl
sign-known _ false false h = refl

numeric_is : (x : ℕ) (p q r : Bool) → (46 == x) ≡ p → (43 == x) ≡ q → (45 == x) ≡ r → (p || (q || (r || false))) ≡ true
    → is_operator x ≡ true
numeric_is x true q r e f g h = ap is_operator (sym (eqb-true 46 x e))
numeric_is x false true r e f g h = ap is_operator (sym (eqb-true 43 x f))
numeric_is x false false true e f g h = ap is_operator (sym (eqb-true 45 x g))
numeric_is x false false false e f g h = cc

-- A byte that could continue a number is an operator byte.
first-numeric : (b : List ℕ) → first_is is_numeric b ≡ true → first_is is_operator b ≡ true
first-numeric [] h = h
first-numeric (x ∷ b) h = numeric_is x (46 == x) (43 == x) (45 == x) refl refl refl h

-- Whether a blank comes before a token that is no section comment.
pub apart-edge : (e : Edge) (t : Token) → is_comment t ≡ false → is_apart e t ≡ edge_is_apart e (edge_of (Some t))
apart-edge e (Word b) h = word-apart e b
apart-edge e (Number b) h = number-apart e b
apart-edge e (Literal b) h = literal-apart e b
apart-edge e (Punct b) h = grind (arith, sign-known e, first-numeric b, sign-first e)
apart-edge e (Head n) h = cc
apart-edge e (Tail n) h = cc
apart-edge e (Verbatim b) h = none-apart e
apart-edge e _ h = none-apart e

is-no-comment : (t : Token) (l : TokenBytesModel) → direct_bytes t ≡ Some l → is_comment t ≡ false
is-no-comment (Head n) l h = cc
is-no-comment (Tail n) l h = cc
is-no-comment _ l h = refl

pub apart-direct : (e : Edge) (t : Token) (l : TokenBytesModel) → direct_bytes t ≡ Some l
    → is_apart e t ≡ edge_is_apart e l.edge
apart-direct e t l h = apart-edge e t (is-no-comment t l h) ∙ sym (ap (edge_is_apart e) (edge-direct t l h))
