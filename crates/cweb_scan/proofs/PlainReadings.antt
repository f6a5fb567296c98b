-- The effect of the law's lexemes on a reading.
use Rattle.cweb_scan.proofs.Common.{◌≡◌, ℕ, Bool, true, false, cond, ◌&&◌, List, [], ◌∷◌, Some, None, refl, ap, sym, ◌∙◌, subst, fold, Token, Word, Number, Literal, Punct, Reading, after_lexeme, item, on, each_line_end, comment_line_end, blank, punctuator, emit_literal, literal_unit, line_end, enter_in, enter, Effect, EmitAt, in_directive, unescaped, Closed, Kind, Lexeme, emit, InPlainC, HasReadTokens, significant, is_hash, is_clean, token_of, code_token, same_Some, arith}
use Rattle.cweb_rules.specs.Matches as kind
use Rattle.cweb_scan.proofs.PlainStates.{blank_yields, and_then, emitted, placed, line_ends, comment_line_ends, next_gives, each_yields, units_give}

-- There is no head that a lexeme could end.
entered : (r : Reading) (k : Kind) → InPlainC r.state → on (enter k) r ≡ r
entered r k h = ap (λ c. on (enter_in c k) r) h.in_c

abbrev Yields : Reading → (Reading → Reading) → Token → Type 0
Yields r f t = HasReadTokens r.state (f r).state (significant (t ∷ []))

literal_yields : (r : Reading) (units : List (List ℕ)) (v : Bool) (t : Token) → InPlainC r.state
    → is_hash t ≡ false → (v ≡ true → is_clean units ≡ true) → cond v (Some (Literal (unescaped units))) None ≡ Some t
    → Yields r (λ q. on (emit_literal (unescaped units) Closed q.state.here) (fold literal_unit q units)) t
literal_yields r units false t h plain clean e = cc
literal_yields r units true t h plain clean e =
    let q = fold literal_unit r units in
    let first = units_give units r (clean refl) h in
    let l = Literal (unescaped units) in
    subst (λ u. HasReadTokens r.state (emit l q.state) (significant (u ∷ []))) (same_Some l t e)
    (and_then r.state q.state (emit l q.state) [] (significant (l ∷ [])) first (emitted q.state l first.plain refl))

code_yields : (r : Reading) (e : Effect) (t : Token) → InPlainC r.state
    → is_hash t ≡ false → code_token e ≡ Some t → Yields r (λ q. item (kind.Code e) [] q) t
code_yields r EmitAt t h plain e =
    grind (arith, same_Some (Punct (64 ∷ [])) t e, emitted r.state (Punct (64 ∷ [])) h refl)
code_yields r _ t h plain e = cc

item_yields : (r : Reading) (k : Kind) (bytes : List ℕ) (t : Token) → InPlainC r.state
    → is_hash t ≡ false → token_of k bytes ≡ Some t → Yields r (item k bytes) t
item_yields r (kind.Quoted units Closed) bytes t h plain e = literal_yields r units (is_clean units) t h plain
    (λ c. c) e
item_yields r kind.Identifier bytes t h plain e =
    grind (arith, same_Some (Word bytes) t e, emitted r.state (Word bytes) h refl)
item_yields r kind.Numeral bytes t h plain e =
    grind (arith, same_Some (Number bytes) t e, emitted r.state (Number bytes) h refl)
item_yields r kind.Punctuator bytes t h plain e =
    let u = Punct bytes in
    let same = same_Some u t e in
    subst (λ v. HasReadTokens r.state (punctuator bytes r.state) (significant (v ∷ []))) same
    (placed r.state (emit u r.state) (significant (u ∷ [])) r.state.here
    (in_directive r.state && r.state.folded) (emitted r.state u h (ap is_hash same ∙ plain)))
item_yields r (kind.Code e) bytes t h plain is = code_yields r e t h plain is
item_yields r _ bytes t h plain e = cc

-- A lexeme that is a token emits it, without a fault.
pub token_yields : (r : Reading) (p : Lexeme) (t : Token) → InPlainC r.state → is_hash t ≡ false
    → token_of p.kind p.bytes ≡ Some t → HasReadTokens r.state (after_lexeme r p).state (significant (t ∷ []))
token_yields r p t h plain e = grind (arith, entered r p.kind h, item_yields r p.kind p.bytes t h plain e)

pub line_end_yields : (r : Reading) (bytes : List ℕ) → InPlainC r.state
    → HasReadTokens r.state (after_lexeme r (record { kind = kind.LineEnd; bytes = bytes })).state []
line_end_yields r bytes h = grind (arith, entered r kind.LineEnd h, next_gives line_end line_ends r h)

-- A comment that ended emits only layout.
pub comment_yields : (r : Reading) (bytes : List ℕ) → InPlainC r.state
    → HasReadTokens r.state (after_lexeme r (record { kind = kind.Comment Closed; bytes = bytes })).state []
comment_yields r bytes h =
    let same : on blank (on (enter (kind.Comment Closed)) r) ≡ r =
    ap (on blank) (entered r (kind.Comment Closed) h) ∙ ap (λ s. record r { state = s }) (blank_yields r.state h) in
    subst (λ q. HasReadTokens r.state (each_line_end comment_line_end bytes q).state [])
    (sym same) (each_yields comment_line_end comment_line_ends bytes r h)
