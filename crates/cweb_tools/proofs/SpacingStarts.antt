-- The first byte of each printed token.
use Rattle.cweb_tools.proofs.Common.{◌≡◌, ℕ, Bool, true, false, cond, ◌&&◌, ◌||◌, ◌==◌, not, List, [], ◌∷◌, Some, None, refl, list_all, Token, Word, Number, Literal, Punct, Blank, Newline, Head, Tail, is_one_of, is_digit, is_word_byte, first_is, JoinsAll, after_word, begins_as, unescaped, Kind, Effect, EmitAt, End, Closed, ReadsAlone, doubled, token_of, spelling_of, literal_token, is_clean, is_operator, and_parts, or_parts, same_Some, not-true, arith}
use Rattle.cweb_rules.specs.Matches as kind
use Rattle.cweb_rules.proofs.Joins.{unlike}
use Rattle.cweb_rules.proofs.Stays.{begins_number}
use Rattle.cweb_scan.proofs.PlainTokens.{begins, text_of}

-- Operator bytes, but `.` only after `.`; or `.` and a digit.
abbrev pub joins : ℕ → ℕ → Bool
joins x y = ((x == 46) && is_digit y) || (is_operator x && is_operator y && (not (y == 46) || (x == 46)))

pub operators_join : JoinsAll joins
operators_join = grind arith

-- The possible first bytes of a token.
abbrev pub Starts : Token → ℕ → Type 0
Starts (Word b) c = (is_word_byte c ≡ true) × (is_digit c ≡ false)
Starts (Number b) c = begins_number c ≡ true
Starts (Literal b) c = (is_operator c ≡ false) × (is_digit c ≡ false)
Starts (Punct b) c = (after_word c ≡ false) × (q : List ℕ) × (b ≡ c ∷ q)
Starts Blank c = c ≡ 32
Starts Newline c = c ≡ 10
Starts (Head n) c = c ≡ 47
Starts (Tail n) c = c ≡ 47
Starts t c = ⊥

pub record First (u : Token) (d : List ℕ) : Type 0 where
  pub byte : ℕ
  pub rest : List ℕ
  pub is : d ≡ byte ∷ rest
  pub starts : Starts u byte

pub none_of : (p : ℕ → Bool) (set : List ℕ) (c : ℕ)
    → list_all (λ x. not (p x)) set ≡ true → p c ≡ true → is_one_of set c ≡ false
none_of p [] c h e = refl
none_of p (x ∷ set) c h e =
    grind (arith, and_parts, unlike, none_of p set c (and_parts (not (p x)) (list_all (λ x. not (p x)) set) h).1 e)

code_first : (e : Effect) {d : List ℕ} {u : Token}
    → token_of (kind.Code e) d ≡ Some u → d ≡ doubled (spelling_of u) → First u d
code_first EmitAt {d} {u} t is = grind (arith, same_Some)
code_first _ t is = cc

clean_is : (v : Bool) (b : List ℕ) (u : Token)
    → cond v (Some (Literal b)) None ≡ Some u → (b : List ℕ) × (Literal b ≡ u)
clean_is true b u t = (b, same_Some (Literal b) u t)
clean_is false b u t = cc

literal_is : (units : List (List ℕ)) (how : End) (u : Token)
    → literal_token units how ≡ Some u → (b : List ℕ) × (Literal b ≡ u)
literal_is units Closed u t = clean_is (is_clean units) (unescaped units) u t
literal_is units _ u t = cc

first_by : (k : Kind) (b : ℕ) (d : List ℕ) {u : Token} → begins_as k b ≡ true
    → token_of k (b ∷ d) ≡ Some u → b ∷ d ≡ doubled (spelling_of u) → First u (b ∷ d)
first_by kind.Identifier b d {u} h t is = grind (arith, and_parts, same_Some, not-true)
first_by kind.Numeral b d {u} h t is = grind (arith, same_Some)
first_by kind.Punctuator b d {u} h t is = grind (arith, or_parts, not-true, same_Some)
first_by (kind.Quoted units how) b d {u} h t is = grind (arith, literal_is, none_of)
first_by (kind.Code c) b d h t is = code_first c t is
first_by _ b d h t is = cc

first_in : (k : Kind) (d : List ℕ) {u : Token} → first_is (begins_as k) d ≡ true
    → token_of k d ≡ Some u → d ≡ doubled (spelling_of u) → First u d
first_in k [] h t is = cc
first_in k (b ∷ d) h t is = first_by k b d h t is

-- The first byte of a token that reads alone.
pub first_of : {u : Token} → ReadsAlone u → First u (text_of u)
first_of {u} h = first_in h.kind (text_of u) (begins u h) h.token refl
