-- Verbatim bytes.
use Rattle.cweb_scan.proofs.Common.{◌≡◌, ℕ, ◌+◌, List, drop, ap, sym, ◌∙◌, Reach, reach, unescaped, reached, Cut, Open, Reached, emit_verbatim, ended_as, Applies, ScanState}
use Rattle.cweb_rules.specs.Matches.{verbatim_match}
use Rattle.cweb_rules.specs.Items.{look_in_control}
use Rattle.cweb_rules.specs.declared.items.Item.TheVariants.{ControlText}
use Rattle.cweb_scan.proofs.Ends.{reach-at_end, size-at_end, how-at_end}

pub verbatim_yields : (t x : List ℕ) (r : Reached) (s new : ScanState)
    → r ≡ reached (reach look_in_control Open (drop 2 t))
    → x ≡ unescaped (reach look_in_control Open (drop 2 t)).units → new ≡ emit_verbatim x (ended_as Cut r.how) s
    → Applies (verbatim_match t) t (2 + (r.size + r.close)) s new
verbatim_yields t x r s new is text made =
    let u = drop 2 t in
    let same : x ≡ unescaped (reach look_in_control Cut u).units =
    text ∙ ap (λ (v : Reach). unescaped v.units) (sym (reach-at_end ControlText Cut u)) in
    record {
      size = ap (λ n. 2 + n) (size-at_end ControlText Cut u r is);
      state = made ∙ (λ i. emit_verbatim (same i) (how-at_end ControlText Cut u r is i) s);
    }
