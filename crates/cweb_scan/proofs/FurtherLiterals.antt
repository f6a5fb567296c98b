-- C text outside directives: literals that end in their line and have no `@`.
use Rattle.cweb_scan.proofs.Common.{◌≡◌, ◌≤◌, ℕ, ◌+◌, suc, true, false, ◌&&◌, ◌==◌, not, List, [], ◌∷◌, ◌++◌, length, take, drop, refl, ap, sym, ◌∙◌, subst, arith, if◌then◌else◌, codes, bytes_eq, flat_map, fold, prefix_len, Literal, Reach, reach, body, reach_size, literal_match, literal_prefix, quote_of, look_in_literal, unit_bytes, unescaped, IsLine, is_unclosed, reached, c_rule, End, Closed, Cut, Open, Reached, Reading, ended_as, emit_literal, literal_unit, Applies, TakesPlain, ScanState, emit, is_skipped, IsPlainC}
use Rattle.cweb_rules.specs.declared.rule.Rule.TheVariants as rule
use Rattle.cweb_rules.proofs.OverLineEnds.{ended_stops}
use Rattle.cweb_rules.proofs.Looks.{literal-local, literal-some}
use Rattle.cweb_rules.proofs.UnitNewlines.{quoted-bytes}
use Rattle.cweb_scan.proofs.Ends.{none_to_come, nothing_later, size-at_end, how-at_end}
use Rattle.cweb_rules.specs.declared.items.Item.TheVariants as item
use Rattle.cweb_scan.proofs.Furthers.{ended_turn}

abbrev pub HasNone : List ℕ → Type 0
HasNone [] = Unit {0}
HasNone (b ∷ t) = ((b == 64) ≡ false) × HasNone t

pub none_valid : (t : List ℕ) → length t ≤ prefix_len is_skipped t → HasNone t
none_valid [] h = tt
none_valid (b ∷ t) h = (elim (b == 64) as (λ v.
    (b == 64) ≡ v → length (b ∷ t) ≤ (if not v then 1 + prefix_len is_skipped t else 0) → HasNone (b ∷ t)) [
      | true ↦ λ e g. absurd (omega (arith, g))
      | false ↦ λ e g. (e, none_valid t (omega (arith, g)))
    ]) refl h

pub none_before : (t : List ℕ) → HasNone (take (prefix_len is_skipped t) t)
none_before [] = tt
none_before (b ∷ t) = (elim (b == 64) as (λ v.
    (b == 64) ≡ v → HasNone (take (if not v then 1 + prefix_len is_skipped t else 0) (b ∷ t))) [
      | true ↦ λ e. tt
      | false ↦ λ e.
          let one : 1 + prefix_len is_skipped t ≡ suc (prefix_len is_skipped t) = omega arith in
          subst (λ n. HasNone (take n (b ∷ t))) (sym one) (e, none_before t)
    ]) refl

pub none_apart : (t u : List ℕ) → HasNone (t ++ u) → HasNone t × HasNone u
none_apart [] u h = (tt, h)
none_apart (b ∷ t) u h = let p = none_apart t u h.1 in ((h.0, p.0), p.1)

unit_stays : (u : List ℕ) → HasNone u → unit_bytes u ≡ u
unit_stays [] h = refl
unit_stays (b ∷ t) h = ap (λ v. if v && bytes_eq t (codes "@") then codes "@" else b ∷ t) h.0

pub text_stays : (us : List (List ℕ)) → HasNone (flat_map (λ u. u) us) → unescaped us ≡ flat_map (λ u. u) us
text_stays [] h = refl
text_stays (u ∷ us) h = grind (arith, none_apart, unit_stays, text_stays us (none_apart u (flat_map (λ u. u) us) h).1)

unit_reported : (u : List ℕ) (s : ScanState) → HasNone u → literal_unit (nothing_later s) u ≡ nothing_later s
unit_reported [] s h = refl
unit_reported (b ∷ t) s h = grind (arith, none_to_come)

units_reported : (us : List (List ℕ)) (s : ScanState) → HasNone (flat_map (λ u. u) us)
    → fold literal_unit (nothing_later s) us ≡ nothing_later s
units_reported [] s h = refl
units_reported (u ∷ us) s h =
    grind (arith, none_apart, unit_reported, units_reported us s (none_apart u (flat_map (λ u. u) us) h).1)

abbrev pub literal_reach : List ℕ → End → Reach
literal_reach u e =
    let n = literal_prefix u in reach (look_in_literal (quote_of (drop n u))) e (drop (n + 1) u)

literal_yields : (n : ℕ) (u : List ℕ) (s new : ScanState) (r : Reached) → r ≡ reached (literal_reach u Open)
    → r.how ≡ Closed → n ≡ literal_prefix u + 1 + (r.size + r.close) → HasNone (take n u)
    → new ≡ emit (Literal (take n u)) s → Applies (literal_match u) u n s new
literal_yields n u s new r is closed size none made =
    let k = literal_prefix u + 1 in
    let look = look_in_literal (quote_of (drop (literal_prefix u) u)) in
    let m = literal_reach u Cut in
    let us = take k u ∷ m.units ++ take m.close (drop (k + length (body m)) u) ∷ [] in
    let of = item.Literal (quote_of (drop (literal_prefix u) u)) in
    let fits : n ≡ k + reach_size m = size ∙ ap (λ j. k + j) (size-at_end of Cut (drop k u) r is) in
    let bytes : flat_map (λ u. u) us ≡ take n u =
    quoted-bytes look (literal-some (quote_of (drop (literal_prefix u) u))) k u ∙ ap (λ j. take j u) (sym fits) in
    let clean = subst HasNone (sym bytes) none in
    let how : m.how ≡ Closed = sym (how-at_end of Cut (drop k u) r is) ∙ ap (ended_as Cut) closed in
    record {
      size = fits;
      state = made ∙ ap (λ x. emit (Literal x) s) (sym bytes ∙ sym (text_stays us clean))
          ∙ ap (λ (e : End). emit_literal (unescaped us) e s.here s) (sym how)
          ∙ ap (λ (q : Reading). emit_literal (unescaped us) m.how s.here q.state) (sym (units_reported us s clean));
    }

pub literal_turn : (n : ℕ) (u : List ℕ) (s new : ScanState) (r : Reached) → IsLine u → 1 ≤ length u → IsPlainC s
    → rule.Literal ≡ c_rule false u → r ≡ reached (literal_reach u Open) → r.how ≡ Closed
    → n ≡ literal_prefix u + 1 + (r.size + r.close) → HasNone (take n u) → new ≡ emit (Literal (take n u)) s
    → TakesPlain n u s new
literal_turn n u s new r line some h is seen closed size none made =
    let quote = quote_of (drop (literal_prefix u) u) in
    ended_turn n u s new rule.Literal line some h is (ended_stops (look_in_literal quote) (drop
    (literal_prefix u + 1) u)
    (literal-local quote (10 ∷ []) refl) (literal-some quote) (sym (ap (λ (v : Reached). is_unclosed v.how) seen)
    ∙ ap is_unclosed closed)) (literal_yields n u s new r seen closed size none made)
