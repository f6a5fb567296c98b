-- What follows from a rule of C text being the first that applies.
use Rattle.cweb_rules.proofs.Common.{◌≡◌, ℕ, Bool, true, false, ◌&&◌, List, refl, sym, ◌∙◌, codes, if◌then◌else◌, is_blank, is_line_end, is_word_byte, begins, first_is, starts_section, starts_raw, starts_literal, starts_include, starts_number, c_rule, c_opens, opens_by, IsPast, Effect, Rule, subst}
use Rattle.cweb_rules.specs.declared.rule.Rule.TheVariants as rule
use Rattle.cweb_rules.proofs.FirstBytes.{known_if}

abbrev pub IsFirst : Bool → List ℕ → Rule → Type 0
IsFirst includes t rule.Blanks = first_is is_blank t ≡ true
IsFirst includes t rule.LineEnd = first_is is_line_end t ≡ true
IsFirst includes t rule.Comment = (first_is is_line_end t ≡ false) × (begins (codes "/*") t ≡ true)
IsFirst includes t rule.LineComment = (first_is is_line_end t ≡ false) × (begins (codes "//") t ≡ true)
IsFirst includes t rule.Section = starts_section t ≡ true
IsFirst includes t rule.Code = (starts_section t ≡ false) × (begins (codes "@") t ≡ true)
IsFirst includes t rule.RawLiteral = IsPast t × (starts_raw t ≡ true)
IsFirst includes t rule.Literal = IsPast t × (starts_raw t ≡ false) × (starts_literal t ≡ true)
IsFirst includes t rule.IncludedName = (includes && starts_include t) ≡ true
IsFirst includes t rule.Number = (IsPast t × (starts_raw t ≡ false)) ×
    (starts_literal t ≡ false) × (starts_number t ≡ true)
IsFirst includes t rule.Identifier = (IsPast t × (starts_raw t ≡ false)) ×
    (starts_literal t ≡ false) × (starts_number t ≡ false) × (first_is is_word_byte t ≡ true)
IsFirst includes t rule.Punctuator = (IsPast t × (starts_raw t ≡ false)) ×
    (starts_literal t ≡ false) × (starts_number t ≡ false) × (first_is is_word_byte t ≡ false)

pub first_rule : (includes : Bool) (t : List ℕ) → IsFirst includes t (c_rule includes t)
first_rule includes t =
    let P : Rule → Type 0 = IsFirst includes t in
    known_if P (first_is is_blank t) _ _ (λ e. e) (λ b.
    known_if P (first_is is_line_end t) _ _ (λ e. e) (λ l.
    known_if P (begins (codes "/*") t) _ _ (λ e. (l, e)) (λ c.
    known_if P (begins (codes "//") t) _ _ (λ e. (l, e)) (λ d.
    known_if P (starts_section t) _ _ (λ e. e) (λ s.
    known_if P (begins (codes "@") t) _ _ (λ e. (s, e)) (λ a.
    let past : IsPast t = record { blank = b; line_end = l; comment = c; line_comment = d; section = s; code = a } in
    known_if P (starts_raw t) _ _ (λ e. (past, e)) (λ w.
    known_if P (starts_literal t) _ _ (λ e. (past, w, e)) (λ q.
    known_if P (includes && starts_include t) _ _ (λ e. e) (λ i.
    known_if P (starts_number t) _ _ (λ e. ((past, w), q, e)) (λ n.
    known_if P (first_is is_word_byte t) _ _ (λ e. ((past, w), q, n, e)) (λ e. ((past, w), q, n, e))))))))))))

pub seen : (includes : Bool) (t : List ℕ) (r : Rule) → c_rule includes t ≡ r → IsFirst includes t r
seen includes t r h = subst (IsFirst includes t) h (first_rule includes t)

later : (f : Rule → Bool) (v : Bool) (x y z : Rule) → f y ≡ f z → f (if v then x else y) ≡ f (if v then x else z)
later f true x y z h = refl
later f false x y z h = h

rest_closed : (effect : ℕ → Effect) (t : List ℕ) (a b c : Bool) → opens_by effect t
    (if a then rule.IncludedName else (if b then rule.Number else (if c then rule.Identifier else rule.Punctuator)))
    ≡ false
rest_closed effect t false false true = refl
rest_closed effect t _ _ _ = refl

-- Whether the lexeme is open after its line is the same in `#include` lines.
pub c_opens-by : (effect : ℕ → Effect) (includes : Bool) (t : List ℕ)
    → c_opens effect t ≡ opens_by effect t (c_rule includes t)
c_opens-by effect includes t =
    let f : Rule → Bool = opens_by effect t in
    later f (first_is is_blank t) _ _ _ (later f (first_is is_line_end t) _ _ _ (later f (begins (codes "/*") t) _ _ _
    (later f (begins (codes "//") t) _ _ _ (later f (starts_section t) _ _ _ (later f (begins (codes "@") t) _ _ _
    (later f (starts_raw t) _ _ _ (later f (starts_literal t) _ _ _
    (rest_closed effect t false (starts_number t) (first_is is_word_byte t)
    ∙ sym (rest_closed effect t (includes && starts_include t) (starts_number t) (first_is is_word_byte t))))))))))
