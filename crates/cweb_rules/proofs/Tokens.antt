-- A token of C text ends by itself, and which bytes begin it.
use Rattle.cweb_rules.proofs.Common.{◌≡◌, ℕ, Bool, true, false, ◌&&◌, ◌==◌, List, [], ◌∷◌, ◌++◌, Option, Some, None, length, drop, refl, ap, sym, ◌∙◌, subst, arith, eqb-true, is_digit, is_word_byte, first_is, starts_section, in_c, letter, Transliteration, Effect, EmitAt, End, Closed, JoinsAll, IsToken, joins_last, continues_lexeme, emits_at, is_token, begins_as, c_match, effect_match, found_letter_match, is_closed, starts_raw, Kind, rule_match, starts_number, and_parts, or_parts, IsPast}
use Rattle.cweb_rules.specs.declared.effect.Effect.TheVariants as effect
use Rattle.cweb_rules.specs.Matches as kind
use Rattle.cweb_rules.proofs.Chosen.{Coded, Opens, Facts, rule_of, chosen}
use Rattle.cweb_rules.proofs.ClosedLiterals.{raw_stays_whole, literal_stays_whole}
use Rattle.cweb_rules.proofs.Joins.{seam_joins}
use Rattle.cweb_rules.proofs.Raws.{run_all}
use Rattle.cweb_rules.proofs.Looks.{at_fits}
use Rattle.cweb_rules.proofs.Stays.{plain_literal, number_first}
use Rattle.cweb_rules.proofs.TokensStay.{word_stays, number_stays, punct_stays}

seam_of : (joins : ℕ → ℕ → Bool) (b : ℕ) (t more : List ℕ)
    → seam_joins joins b t more ≡ first_is (joins_last joins (b ∷ t)) more
seam_of joins b [] [] = refl
seam_of joins b [] (c ∷ more) = refl
seam_of joins b (d ∷ t) more = seam_of joins d t more

-- The next lexeme of C text outside `#include` lines.
abbrev pub Names : Kind → List ℕ → ℕ → Type 0
Names k t n = c_match in_c false false t ≡ rule_match k n

pub facts_of : (d : List ℕ) (k : Kind) (n : ℕ) → Names k d n → Facts d (rule_of k)
facts_of d k n e = subst (Facts d) (ap (λ f. rule_of f.kind) e) (chosen d)

pub no_empty : (k : Kind) (P : Type 0) → Names k [] 0 → P
no_empty k P e = let n : 1 ≡ 0 = ap (λ f. f.size) e in absurd (omega (arith, n))

abbrev is_at : Kind → Bool
is_at k = elim k [ kind.Code e ↦ emits_at e | _ ↦ false ]

no_letter : (o : Option Transliteration) (t : List ℕ) → is_at (found_letter_match o t).kind ≡ false
no_letter None t = refl
no_letter (Some l) t = refl

abbrev IsAt : Effect → List ℕ → List ℕ → Type 0
IsAt e t u = (effect_match e false u ≡ rule_match (kind.Code EmitAt) 2) × ((effect_match e false t).size ≡ 2)

at_of : (e : Effect) (t u : List ℕ) → is_at (effect_match e false t).kind ≡ true → IsAt e t u
at_of EmitAt t u h = (refl, refl)
at_of effect.Letter t u h = let wrong : true ≡ false = sym h ∙ no_letter (letter (drop 2 t)) t in cc
at_of _ t u h = cc

code_is : (a b : ℕ) (t : List ℕ) → (64 == a) ≡ true → starts_section (a ∷ b ∷ t) ≡ false
    → c_match in_c false false (a ∷ b ∷ t) ≡ effect_match (in_c b) false (a ∷ b ∷ t)
code_is a b t at section = cc (eqb-true 64 a at)

at_from : (a : ℕ) (d more : List ℕ) → Coded (a ∷ d) → Names (kind.Code EmitAt) (a ∷ d) (length (a ∷ d))
    → Names (kind.Code EmitAt) (a ∷ d ++ more) (length (a ∷ d))
at_from a [] more f e = absurd (omega (arith, at_fits a [] f.0 f.1))
at_from a (b ∷ t) more f e = grind (arith, code_is a b t, at_of (in_c b), code_is a b (t ++ more))

at_stays : (d more : List ℕ) → Names (kind.Code EmitAt) d (length d) → Names (kind.Code EmitAt) (d ++ more) (length d)
at_stays [] more e = no_empty (kind.Code EmitAt) (Names (kind.Code EmitAt) more 0) e
at_stays (a ∷ d) more e = at_from a d more (facts_of (a ∷ d) (kind.Code EmitAt) (length (a ∷ d)) e) e

code_stays : (c : Effect) (d more : List ℕ) → Names (kind.Code c) d (length d)
    → emits_at c ≡ true → Names (kind.Code c) (d ++ more) (length d)
code_stays EmitAt d more e h = at_stays d more e
code_stays _ d more e h = cc

ended : (how : End) → is_closed how ≡ true → how ≡ Closed
ended Closed h = refl
ended _ h = cc

literal_case : (v : Bool) (units : List (List ℕ)) (how : End) (b : ℕ) (d more : List ℕ)
    → IsPast (b ∷ d) → Opens (b ∷ d) v → Names (kind.Quoted units how) (b ∷ d) (length (b ∷ d))
    → is_closed how ≡ true → Names (kind.Quoted units how) (b ∷ d ++ more) (length (b ∷ d))
literal_case true units how b d more p o e h = grind (arith, ended how h, raw_stays_whole b d more p o)
literal_case false units how b d more p o e h = grind (arith, ended how h, literal_stays_whole b d more p o.0 o.1)

pub stays : (joins : ℕ → ℕ → Bool) → JoinsAll joins → (k : Kind) (d more : List ℕ) → Names k d (length d)
    → is_token k ≡ true → first_is (continues_lexeme joins k d) more ≡ false → Names k (d ++ more) (length d)
stays joins all k [] more e h seam = no_empty k (Names k more 0) e
stays joins all kind.Identifier (b ∷ d) more e h seam =
    grind (
      arith,
      facts_of (b ∷ d) kind.Identifier (length (b ∷ d)) e,
      run_all is_word_byte (b ∷ d),
      word_stays b d more,
    )
stays joins all kind.Numeral (b ∷ d) more e h seam =
    number_stays b d more (facts_of (b ∷ d) kind.Numeral (length (b ∷ d)) e) seam ∙ e
stays joins all kind.Punctuator (b ∷ d) more e h seam =
    punct_stays joins all b d more (facts_of (b ∷ d) kind.Punctuator (length (b ∷ d)) e) (seam_of joins b d more ∙ seam)
    ∙ e
stays joins all (kind.Quoted units how) (b ∷ d) more e h seam =
    let f = facts_of (b ∷ d) (kind.Quoted units how) (length (b ∷ d)) e in
    literal_case (starts_raw (b ∷ d)) units how b d more f.0 f.1 e h
stays joins all (kind.Code c) (b ∷ d) more e h seam = code_stays c (b ∷ d) more e h
stays joins all _ (b ∷ d) more e h seam = cc

no_digit : (b : ℕ) (t : List ℕ) → starts_number (b ∷ t) ≡ false → is_digit b ≡ false
no_digit b [] h = h
no_digit b (c ∷ t) h = (or_parts (is_digit b) ((b == 46) && is_digit c) h).0

at_byte : (b : ℕ) → (64 == b) ≡ true → (b == 64) ≡ true
at_byte b h = subst (λ x. (x == 64) ≡ true) (eqb-true 64 b h) refl

pub first_of : (k : Kind) (d : List ℕ) → Names k d (length d) → is_token k ≡ true → first_is (begins_as k) d ≡ true
first_of k [] e h = no_empty k (first_is (begins_as k) [] ≡ true) e
first_of kind.Identifier (b ∷ d) e h = grind (arith, facts_of (b ∷ d) kind.Identifier (length (b ∷ d)) e, no_digit b d)
first_of kind.Numeral (b ∷ d) e h = let f = facts_of (b ∷ d) kind.Numeral (length (b ∷ d)) e in number_first b d f.2
first_of kind.Punctuator (b ∷ d) e h =
    grind (arith, facts_of (b ∷ d) kind.Punctuator (length (b ∷ d)) e, plain_literal b d)
first_of (kind.Quoted units how) (b ∷ d) e h =
    grind (arith, facts_of (b ∷ d) (kind.Quoted units how) (length (b ∷ d)) e)
first_of (kind.Code c) (b ∷ d) e h =
    let f = facts_of (b ∷ d) (kind.Code c) (length (b ∷ d)) e in at_byte b (and_parts (64 == b) true f.1).0
first_of _ (b ∷ d) e h = cc

pub tokens_stay : (joins : ℕ → ℕ → Bool) (k : Kind) (d more : List ℕ) → JoinsAll joins
    → IsToken k d → first_is (continues_lexeme joins k d) more ≡ false → Names k (d ++ more) (length d)
tokens_stay joins k d more all h seam = stays joins all k d more h.whole h.token seam

pub tokens_begin : (k : Kind) (d : List ℕ) → IsToken k d → first_is (begins_as k) d ≡ true
tokens_begin k d h = first_of k d h.whole h.token
