-- First bytes after which only one rule of C text is possible.
use Rattle.cweb_rules.proofs.Common.{◌≡◌, ℕ, Bool, true, false, ◌||◌, ◌&&◌, ◌==◌, not, ◌≤◌, List, [], ◌∷◌, length, slice_index_or, refl, ap, sym, ◌∙◌, subst, arith, if◌then◌else◌, codes, list_all, eqb-true, begins, is_blank, is_digit, is_one_of, is_word_byte, starts_section, has_quote_at, literal_prefix, raw_prefix, starts_include, starts_literal, starts_raw, first_is, c_rule, is_settled, starts_number, and-false, and_parts}
use Rattle.cweb_rules.specs.declared.firsts.Plain.{Plain}
use Rattle.cweb_rules.specs.declared.firsts.Plain.TheVariants as plain
use Rattle.cweb_rules.specs.inner.Rules.{is_single_punctuator, is_figure, stops_plain, is_less, is_quote}
use Rattle.cweb_rules.specs.inner.Rules.{first_byte_class}
use Rattle.cweb_rules.specs.declared.rule.Rule.TheVariants as rule
use Rattle.cweb_rules.proofs.Seams.{differs}

abbrev is_unsettled : ℕ → Bool
is_unsettled b = not (is_settled b)

last_false : (a b : Bool) → not (a || b) ≡ true → b ≡ false
last_false true b h = cc
last_false false true h = cc
last_false false false h = refl

module _ (b : ℕ) (settled : is_settled b ≡ true) where
  differ : (x : ℕ) → is_unsettled x ≡ true → (x == b) ≡ false
  differ x h = differs is_unsettled x b h (ap not settled)

  differ_back : (x : ℕ) → is_unsettled x ≡ true → (b == x) ≡ false
  differ_back x h = grind (arith, eqb-true b x)

  none : (set : List ℕ) → list_all is_unsettled set ≡ true → is_one_of set b ≡ false
  none [] h = refl
  none (x ∷ set) h = grind (arith, and_parts (is_unsettled x) (list_all is_unsettled set) h, differ x, none set)

  no_digit : is_digit b ≡ false
  no_digit = last_false
      (is_one_of (32 ∷ 9 ∷ 13 ∷ 11 ∷ 12 ∷ 10 ∷ []) b || is_one_of (codes "/@RLuU\"'<.") b) (is_digit b) settled

  no_section : (t : List ℕ) → starts_section (b ∷ t) ≡ false
  no_section [] = differ_back 64 refl
  no_section (d ∷ t) = ap (λ v. v && is_one_of (32 ∷ 9 ∷ 10 ∷ 42 ∷ []) d) (differ_back 64 refl)

  no_sign : (x : ℕ) (s t : List ℕ) → is_unsettled x ≡ true → begins (x ∷ s) (b ∷ t) ≡ false
  no_sign x s t h = ap (λ v. v && begins s t) (differ x h)

  no_raw_prefix : (t : List ℕ) → raw_prefix (b ∷ t) ≡ 0
  no_raw_prefix t = grind (arith, no_sign 117 (codes "R\"") t refl, no_sign 85 (codes "R\"") t refl)

  no_raw : (t : List ℕ) → starts_raw (b ∷ t) ≡ false
  no_raw t = grind (arith, no_raw_prefix t, no_sign 82 (codes "\"") t refl)

  no_prefix : (t : List ℕ) → literal_prefix (b ∷ t) ≡ 0
  no_prefix t = grind (arith, no_sign 76, no_sign 117, no_sign 85)

  no_literal : (t : List ℕ) → starts_literal (b ∷ t) ≡ false
  no_literal t = ap (λ n. has_quote_at n (b ∷ t)) (no_prefix t)
      ∙ (λ i. no_sign 34 [] t refl i || no_sign 39 [] t refl i)

  no_include : (includes : Bool) (t : List ℕ) → (includes && starts_include (b ∷ t)) ≡ false
  no_include includes t = grind (arith, no_sign 60, and-false includes)

  no_number : (t : List ℕ) → starts_number (b ∷ t) ≡ false
  no_number [] = no_digit
  no_number (d ∷ t) = λ i. no_digit i || (differ_back 46 refl i && is_digit d)

  pub settled-rule : (includes : Bool) (t : List ℕ)
      → c_rule includes (b ∷ t) ≡ (if is_word_byte b then rule.Identifier else rule.Punctuator)
  settled-rule includes t = λ i. if none (32 ∷ 9 ∷ 13 ∷ 11 ∷ 12 ∷ []) refl i then rule.Blanks else
      (if differ_back 10 refl i then rule.LineEnd else (if no_sign 47 (codes "*") t refl i then rule.Comment else
      (if no_sign 47 (codes "/") t refl i then rule.LineComment else (if no_section t i then rule.Section else
      (if no_sign 64 [] t refl i then rule.Code else (if no_raw t i then rule.RawLiteral else
      (if no_literal t i then rule.Literal else (if no_include includes t i then rule.IncludedName else
      (if no_number t i then rule.Number else (if is_word_byte b then rule.Identifier else rule.Punctuator))))))))))

pub if_true : {A : Type 0} (v : Bool) (x y : A) → v ≡ true → (if v then x else y) ≡ x
if_true true x y h = refl
if_true false x y h = cc

pub known_if : {A : Type 0} (T : A → Type 0) (v : Bool) (x y : A) → (v ≡ true → T x) → (v ≡ false → T y)
    → T (if v then x else y)
known_if T true x y f g = f refl
known_if T false x y f g = g refl

abbrev pub Each : (ℕ → Type 0) → List ℕ → Type 0
Each P [] = Unit {0}
Each P (x ∷ xs) = P x × Each P xs

pub from_set : (P : ℕ → Type 0) (set : List ℕ) → Each P set → (b : ℕ) → is_one_of set b ≡ true → P b
from_set P [] all b h = cc
from_set P (x ∷ xs) all b h = (elim (x == b) as (λ v. (x == b) ≡ v → (v || is_one_of xs b) ≡ true → P b) [
  | true ↦ λ e f. subst P (eqb-true x b e) all.0
  | false ↦ λ e f. from_set P xs all.1 b f
]) refl h

-- A digit begins a number, a quote a literal, and a `<` an operator.
figure_rule : (b : ℕ) (t : List ℕ) → is_figure b ≡ true → rule.Number ≡ c_rule false (b ∷ t)
figure_rule b [] h = from_set (λ n. rule.Number ≡ c_rule false (n ∷ [])) (codes "0123456789") (search refl) b h
figure_rule b (d ∷ u) h =
    from_set (λ n. rule.Number ≡ c_rule false (n ∷ d ∷ u)) (codes "0123456789") (search refl) b h

less_rule : (b : ℕ) (t : List ℕ) → is_less b ≡ true → rule.Punctuator ≡ c_rule false (b ∷ t)
less_rule b [] h = from_set (λ n. rule.Punctuator ≡ c_rule false (n ∷ [])) (codes "<") (search refl) b h
less_rule b (d ∷ u) h = from_set (λ n. rule.Punctuator ≡ c_rule false (n ∷ d ∷ u)) (codes "<") (search refl) b h

quote_rule : (b : ℕ) (t : List ℕ) → is_quote b ≡ true → rule.Literal ≡ c_rule false (b ∷ t)
quote_rule b [] h = from_set (λ n. rule.Literal ≡ c_rule false (n ∷ [])) (codes "\"'") (search refl) b h
quote_rule b (d ∷ u) h = from_set (λ n. rule.Literal ≡ c_rule false (n ∷ d ∷ u)) (codes "\"'") (search refl) b h

-- The rule that a first byte determines, or that the fast path may take the lexeme.
abbrev pub IsKnown : Bool → List ℕ → Plain → Type 0
IsKnown includes t plain.Blank = (rule.Blanks ≡ c_rule includes t) × (first_is is_blank t ≡ true)
IsKnown includes t plain.Word = (rule.Identifier ≡ c_rule includes t) × (first_is is_word_byte t ≡ true)
IsKnown includes t plain.Lone = (rule.Punctuator ≡ c_rule includes t) × (first_is is_single_punctuator t ≡ true)
IsKnown includes t plain.Operator = (rule.Punctuator ≡ c_rule false t) × (first_is stops_plain t ≡ false)
IsKnown includes t plain.Digit = rule.Number ≡ c_rule false t
IsKnown includes t plain.Quote = rule.Literal ≡ c_rule false t
IsKnown includes t plain.Further = first_is stops_plain t ≡ false
IsKnown includes t plain.Stop = Unit {0}

-- A byte that begins no blank, and no lexeme that needs lookahead.
settled_is : (b : ℕ) (includes word : Bool) (t : List ℕ) → is_settled b ≡ true → is_word_byte b ≡ word
    → c_rule includes (b ∷ t) ≡ (if word then rule.Identifier else rule.Punctuator)
settled_is b includes word t settled is = grind (arith, settled-rule b settled includes t, is)

plain-known : (includes : Bool) (b : ℕ) (t : List ℕ) → IsKnown includes (b ∷ t) (first_byte_class b)
plain-known includes b t =
    let T = IsKnown includes (b ∷ t) in
    known_if T (stops_plain b) _ _ (λ e. tt) (λ kept.
    known_if T (is_blank b) _ _ (λ e. (sym (if_true (is_blank b) rule.Blanks _ e), e)) (λ e.
    known_if T (is_settled b) _ _ (λ settled.
    known_if T (is_word_byte b) _ _ (λ e. (sym (settled_is b includes true t settled e), e)) (λ e.
    known_if T (is_single_punctuator b) _ _ (λ f. (sym (settled_is b includes false t settled e), f))
    (λ f. (sym (settled_is b false false t settled e), kept)))) (λ e.
    known_if T (is_figure b) _ _ (figure_rule b t) (λ e.
    known_if T (is_quote b) _ _ (quote_rule b t) (λ e.
    known_if T (is_less b) _ _ (λ f. (less_rule b t f, kept)) (λ f. kept))))))

pub known-at : (includes : Bool) (t : List ℕ) (r : Plain) → 1 ≤ length t → r ≡ first_byte_class (slice_index_or t 0 0)
    → IsKnown includes t r
known-at includes [] r h e = absurd (omega (arith, h))
known-at includes (b ∷ t) r h e = subst (IsKnown includes (b ∷ t)) (sym e) (plain-known includes b t)
