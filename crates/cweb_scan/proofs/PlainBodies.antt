-- Bodies of literals without `@`: their units are taken as one.
use Rattle.cweb_scan.proofs.Common.{◌≡◌, ℕ, List, [], ◌∷◌, ◌++◌, take, refl, ap, sym, ◌∙◌, subst, arith, flat_map, fold, append-nil, fold-append, if◌then◌else◌, Place, at_line_ends, reach, body, Open, reached, Reading, literal_unit, each_line_end, move_to, ScanState, PassesUnits}
use Rattle.cweb_rules.specs.Bytes.{is_line_end}
use Rattle.cweb_rules.specs.declared.items.Item.{Item}
use Rattle.cweb_rules.specs.inner.LineItems.{look_of}
use Rattle.cweb_rules.proofs.UnitNewlines.{units-prefix}
use Rattle.cweb_scan.specs.Effects.{next_line}
use Rattle.cweb_scan.proofs.Ends.{item-some}
use Rattle.cweb_scan.proofs.FurtherLiterals.{HasNone, none_apart}
use Rattle.cweb_scan.proofs.TakenItems.{reading}

unit_passes : (u : List ℕ) (r : Reading) → HasNone u → literal_unit r u ≡ each_line_end move_to u r
unit_passes [] r h = refl
unit_passes (b ∷ t) r h = grind arith

units_pass : (us : List (List ℕ)) (r : Reading) → HasNone (flat_map (λ u. u) us)
    → fold literal_unit r us ≡ each_line_end move_to (flat_map (λ u. u) us) r
units_pass [] r h = refl
units_pass (u ∷ us) r h =
    let later = flat_map (λ (u : List ℕ). u) us in
    let p = none_apart u later h in
    units_pass us (literal_unit r u) p.1 ∙ ap (each_line_end move_to later) (unit_passes u r p.0)
    ∙ sym (fold-append (λ r b. if is_line_end b then next_line move_to r else r) r u later)

-- Units without `@` pass as one unit.
pub passes_as_one : (us : List (List ℕ)) (whole : List ℕ) (a b : List Place) (s t : ScanState)
    → whole ≡ flat_map (λ u. u) us → HasNone whole → PassesUnits (whole ∷ []) a b s t → PassesUnits us a b s t
passes_as_one us whole a b s t is none one = record {
  state = λ later. units_pass us (reading s (a ++ later)) (subst HasNone is none)
      ∙ (λ i. each_line_end move_to (sym is i) (reading s (a ++ later)))
      ∙ sym (unit_passes whole (reading s (a ++ later)) none) ∙ one.state later;
  lines = omega (arith, one.lines, ap (at_line_ends 1) (append-nil whole), ap (at_line_ends 1) is);
  context = one.context;
  contents = one.contents;
  sections = one.sections;
}

-- The bytes of the units.
pub whole_is : (item : Item) (inner whole : List ℕ) (size : ℕ) → size ≡ (reached (reach (look_of item) Open inner)).size
    → whole ≡ take size inner → whole ≡ body (reach (look_of item) Open inner)
whole_is item inner whole size is text = grind (arith, units-prefix, item-some)
