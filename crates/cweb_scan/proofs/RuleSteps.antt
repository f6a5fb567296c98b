-- One step in a macro or C text, by the first rule that applies.
use Rattle.cweb_scan.proofs.Common.{◌≡◌, ◌≤◌, ℕ, Bool, true, false, ◌&&◌, List, [], ◌∷◌, length, drop, take, refl, ap, sym, ◌∙◌, if◌then◌else◌, codes, ne_eqb, begins, first_is, is_line_end, at_line_end, in_macro, match_in, c_match, Skipped, rule_match, IsLine, opens_in, c_opens, c_rule, Context, Macro, Rule, Reading, names_include, ends_in_line, is_head, needs_two, ReaderModel, MakesProgress, in_open_part, Between, move_to}
use Rattle.cweb_rules.specs.declared.rule.Rule.TheVariants as rule
use Rattle.cweb_rules.proofs.Sizes.{begins-size}
use Rattle.cweb_scan.proofs.InLineItemSteps.{closed_at}
use Rattle.cweb_scan.proofs.Ends.{none_to_come}
use Rattle.cweb_rules.proofs.FirstRules.{IsFirst, first_rule, seen}
use Rattle.cweb_scan.proofs.InLineRules.{closes}

-- In a part no head is open.
pub part_head : (c : Context) → in_open_part c ≡ true → is_head c ≡ false
part_head Macro h = refl
part_head _ h = cc

pub ends_closes : (r : Rule) → ends_in_line r ≡ true → closes r ≡ true
ends_closes rule.LineEnd h = cc
ends_closes _ h = cc

abbrev pub is_ended : Rule → Bool
is_ended rule.LineEnd = true
is_ended r = false

no_line_end : (u : List ℕ) → IsLine u → first_is is_line_end u ≡ false
no_line_end [] h = refl
no_line_end (b ∷ t) h = ne_eqb b 10 h.0

-- A line has no newline.
pub rule_in_line : (includes : Bool) (u : List ℕ) → IsLine u → is_ended (c_rule includes u) ≡ false
rule_in_line includes u line = by (c_rule includes u) (first_rule includes u)
  where
    by : (r : Rule) → IsFirst includes u r → is_ended r ≡ false
    by rule.LineEnd s = let wrong : true ≡ false = sym s ∙ no_line_end u line in cc
    by _ s = refl

pub two_fit : (includes : Bool) (u : List ℕ) (r : Rule) → r ≡ c_rule includes u → needs_two r ≡ true → 2 ≤ length u
two_fit includes u rule.LineComment is h = begins-size (codes "//") u (seen includes u rule.LineComment (sym is)).1
two_fit includes u _ is h = cc

-- The rules other than those of openers, sections and codes.
pub left_ends : (r : Rule) → (r ≡ rule.Comment → ⊥) → (r ≡ rule.Section → ⊥) → (r ≡ rule.Code → ⊥)
    → (r ≡ rule.RawLiteral → ⊥) → (r ≡ rule.Literal → ⊥) → is_ended r ≡ false → ends_in_line r ≡ true
left_ends rule.LineEnd c s k w l e = cc
left_ends rule.Comment c s k w l e = absurd (c refl)
left_ends rule.Section c s k w l e = absurd (s refl)
left_ends rule.Code c s k w l e = absurd (k refl)
left_ends rule.RawLiteral c s k w l e = absurd (w refl)
left_ends rule.Literal c s k w l e = absurd (l refl)
left_ends _ c s k w l e = refl

-- A `\` at the end of a line is one byte that emits nothing.
pub backslash_passes : (u : List ℕ) (h : ReaderModel) → h.item ≡ Between → h.state.context ≡ Macro → IsLine u
    → 1 ≤ length u → begins (codes "\\") u ≡ true → at_line_end (drop 1 u) ≡ true → MakesProgress 1 u h h
backslash_passes u h none is line some sign ended =
    let v : (begins (codes "\\") u && at_line_end (drop 1 u)) ≡ true = λ i. sign i && ended i in
    closed_at 1 u h h h.state (rule_match Skipped 1) refl none (ap is_head is) line some (ap (λ (c : Context).
    match_in c (names_include h.state) u) is
    ∙ ap (λ w. if w then rule_match Skipped 1 else c_match in_macro true false u) v)
    (ap (λ (c : Context). opens_in c u) is ∙ ap (λ w. if w then false else c_opens in_macro u) v)
    (record { size = refl; state = sym (ap (λ (r : Reading). r.state) (none_to_come move_to (take 1 u) h.state)) })
