-- Reading a token's bytes and what follows them.
use Rattle.cweb_scan.proofs.Common.{◌≡◌, ℕ, ◌+◌, ◌<◌, ◌/◌, ◌%◌, suc, zero, Bool, true, false, cond, ◌==◌, List, [], ◌∷◌, ◌++◌, Some, length, take, drop, refl, ap, ◌∙◌, arith, append_assoc, length-append, codes, decimal, digit_glyph, digits_onto, list_all, take-append_seam, drop-append_seam, Token, first_is, JoinsAll, IsToken, is_token, is_quiet, begins_as, match_in, Kind, rule_match, CText, Effect, EmitAt, End, Closed, Reading, after_lexeme, next_match, lex, InPlainC, IsReadAs, ReadsAlone, doubled, significant, token_of, literal_token, spelling_of, is_hash, same_Some, and_from, nat_tests}
use Rattle.std.specs.Fmt.{digits}
use Rattle.cweb_rules.specs.laws.Laws as rules
use Rattle.cweb_rules.specs.Matches as kind
use Rattle.cweb_rules.proofs.Comments.{comment_prefix}
use Rattle.cweb_rules.proofs.Tokens.{tokens_stay, tokens_begin}
use Rattle.cweb_scan.proofs.FirstLexeme.{pieces_first}
use Rattle.cweb_scan.specs.laws.Laws.{continues_token}
use Rattle.cweb_scan.proofs.PlainReadings.{token_yields, line_end_yields, comment_yields}

in_plain_c : (r : Reading) (t : List ℕ) → InPlainC r.state → next_match r.state t ≡ match_in CText false t
in_plain_c r t h = grind arith

run_step : (r : Reading) (b : ℕ) (x : List ℕ) (k : Kind) (n : ℕ) → InPlainC r.state → match_in CText false (b ∷ x)
    ≡ rule_match k n → 0 < n
    → lex r (b ∷ x) ≡ lex (after_lexeme r (record { kind = k; bytes = take n (b ∷ x) })) (drop n (b ∷ x))
run_step r b x k n h is some = grind (arith, in_plain_c, pieces_first)

-- A lexeme with these bytes, whatever follows.
run_over : (r : Reading) (d more : List ℕ) (k : Kind) → InPlainC r.state
    → 0 < length d → match_in CText false (d ++ more) ≡ rule_match k (length d)
    → lex r (d ++ more) ≡ lex (after_lexeme r (record { kind = k; bytes = d })) more
run_over r [] more k h some is = absurd (omega (arith, some))
run_over r (b ∷ t) more k h some is =
    let d = b ∷ t in
    run_step r b (t ++ more) k (length d) h is some
    ∙ ap (λ bytes. lex (after_lexeme r (record { kind = k; bytes = bytes })) (drop (length d) (d ++ more)))
    (take-append_seam d more)
    ∙ ap (lex (after_lexeme r (record { kind = k; bytes = d }))) (drop-append_seam d more)

pub newline_read : (r : Reading) (rest : List ℕ) → InPlainC r.state → IsReadAs r (10 ∷ []) rest []
newline_read r rest h = record {
  next = after_lexeme r (record { kind = kind.LineEnd; bytes = 10 ∷ [] });
  goes_on = run_step r 10 rest kind.LineEnd 1 h refl (omega arith);
  read = line_end_yields r (10 ∷ []) h;
}

abbrev pub comment_of : List ℕ → List ℕ
comment_of x = codes "/*" ++ (x ++ codes "*/")

pub comment_read : (r : Reading) (x rest : List ℕ) → list_all is_quiet x ≡ true
    → InPlainC r.state → IsReadAs r (comment_of x) rest []
comment_read r x rest quiet h =
    let d = comment_of x in
    let is : d ++ rest ≡ 47 ∷ 42 ∷ x ++ 42 ∷ 47 ∷ rest = ap (λ t. 47 ∷ 42 ∷ t) (append_assoc x (42 ∷ 47 ∷ []) rest) in
    let size : 2 + (length x + 2) ≡ length d = omega (arith, length-append x (42 ∷ 47 ∷ [])) in
    record {
      next = after_lexeme r (record { kind = kind.Comment Closed; bytes = d });
      goes_on = run_over r d rest (kind.Comment Closed) h (omega arith)
          (ap (match_in CText false) is ∙ comment_prefix x rest quiet ∙ ap (rule_match (kind.Comment Closed)) size);
      read = comment_yields r d h;
    }

glyph_quiet : (d : ℕ) → d < 10 → is_quiet (digit_glyph false d) ≡ true
glyph_quiet d h = grind (arith, nat_tests)

quiet_onto : (k n : ℕ) (acc : List ℕ) → list_all is_quiet acc ≡ true
    → list_all is_quiet (digits_onto k 10 false n acc) ≡ true
quiet_onto zero n acc h = h
quiet_onto (suc k) n acc h =
    let g = digit_glyph false (n % 10) in
    let more = and_from (is_quiet g) (list_all is_quiet acc) (glyph_quiet (n % 10) (omega arith)) h in
    (elim (n / 10 == 0)
    as (λ v. list_all is_quiet (cond v (g ∷ acc) (digits_onto k 10 false (n / 10) (g ∷ acc))) ≡ true) [
      | true ↦ more
      | false ↦ quiet_onto k (n / 10) (g ∷ acc) more
    ])

pub quiet_decimal : (n : ℕ) → list_all is_quiet (decimal n) ≡ true
unfolding digits
quiet_decimal n = quiet_onto 64 n [] refl

-- The kind of a token, and its properties.
pub record Kinded (k : Kind) (d : List ℕ) (u : Token) : Type 0 where
  pub token : is_token k ≡ true
  pub goes : (joins : ℕ → ℕ → Bool) (more : List ℕ) → first_is (continues_token joins u) more ≡ false
      → first_is (rules.continues_lexeme joins k d) more ≡ false

none_goes : (more : List ℕ) → first_is (λ b. false) more ≡ false
none_goes [] = refl
none_goes (b ∷ more) = refl

code_kinded : (c : Effect) (d : List ℕ) (u : Token) → token_of (kind.Code c) d ≡ Some u → Kinded (kind.Code c) d u
code_kinded EmitAt d u t = record { token = refl; goes = λ joins more h. none_goes more }
code_kinded _ d u t = cc

literal_kinded : (units : List (List ℕ)) (how : End) (d : List ℕ) (u : Token)
    → literal_token units how ≡ Some u → Kinded (kind.Quoted units how) d u
literal_kinded units Closed d u t = record { token = refl; goes = λ joins more h. none_goes more }
literal_kinded units _ d u t = cc

pub kinded : (k : Kind) (d : List ℕ) (u : Token) → token_of k d ≡ Some u → Kinded k d u
kinded kind.Identifier d u t = grind (arith, same_Some)
kinded kind.Numeral d u t = grind (arith, same_Some)
kinded kind.Punctuator d u t = grind (arith, same_Some)
kinded (kind.Quoted units how) d u t = literal_kinded units how d u t
kinded (kind.Code c) d u t = code_kinded c d u t
kinded _ d u t = cc

abbrev pub text_of : Token → List ℕ
text_of u = doubled (spelling_of u)

pub alone : (u : Token) (h : ReadsAlone u) → IsToken h.kind (text_of u)
alone u h = record { whole = h.whole; token = (kinded h.kind (text_of u) u h.token).token }

pub begins : (u : Token) (h : ReadsAlone u) → first_is (begins_as h.kind) (text_of u) ≡ true
begins u h = tokens_begin h.kind (text_of u) (alone u h)

some_byte : (p : ℕ → Bool) (d : List ℕ) → first_is p d ≡ true → 0 < length d
some_byte p [] h = cc
some_byte p (b ∷ d) h = omega arith

pub token_read : (joins : ℕ → ℕ → Bool) (r : Reading) (u : Token) (rest : List ℕ)
    → JoinsAll joins → InPlainC r.state → ReadsAlone u → is_hash u ≡ false
    → first_is (continues_token joins u) rest ≡ false → IsReadAs r (text_of u) rest (significant (u ∷ []))
token_read joins r u rest all plain h hash seam =
    let d = text_of u in
    let k = kinded h.kind d u h.token in
    record {
      next = after_lexeme r (record { kind = h.kind; bytes = d });
      goes_on = run_over r d rest h.kind plain (some_byte (begins_as h.kind) d (begins u h))
          (tokens_stay joins h.kind d rest all (alone u h) (k.goes joins rest seam));
      read = token_yields r (record { kind = h.kind; bytes = d }) u plain hash h.token;
    }
