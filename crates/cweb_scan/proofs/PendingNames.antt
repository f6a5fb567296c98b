-- Names, as one slice of the source.
use Rattle.cweb_scan.proofs.Common.{◌≡◌, ◌≤◌, prefix_len, is_skipped, ℕ, ◌+◌, Bool, true, false, List, [], ◌∷◌, length, take, drop, refl, ap, sym, ◌∙◌, arith, codes, if◌then◌else◌, nat_lt, drop-sum, Place, begins, at_line_ends, look_in_name, Reach, reach, reach_size, unescaped, name_match, opener_after, End, Cut, Open, Reached, reached, is_unclosed, opens_in, Context, Limbo, Definition, CText, match_in, occurrence, move_to, on, ScanState, AppliesOver, passed, ended_as, reads_names, is_head, starts_name, takes_opener, with_line}
use Rattle.cweb_rules.specs.declared.items.Item.TheVariants as item
use Rattle.cweb_rules.specs.inner.LineItems.{opens_name, goes_on}
use Rattle.cweb_rules.proofs.OverLineEnds.{goes_on_is}
use Rattle.cweb_rules.proofs.Looks.{name-local, name-units}
use Rattle.cweb_rules.proofs.Sizes.{begins-size}
use Rattle.cweb_rules.proofs.UnitNewlines.{units-prefix}
use Rattle.cweb_scan.proofs.Ends.{item-some, reach-at_end, size-at_end, how-at_end}
use Rattle.cweb_scan.proofs.FirstMatchTaken.{enter_same}
use Rattle.cweb_scan.proofs.FurtherLiterals.{none_before, text_stays}
use Rattle.cweb_scan.proofs.CrossedLineEnds.{CrossesNewline, crosses}
use Rattle.cweb_scan.proofs.PendingItems.{IsNext, each-passed, over, over_ended}
use Rattle.cweb_scan.proofs.OpeningSteps.{two}
use Rattle.cweb_scan.proofs.TakenItems.{reading}

name_crosses : CrossesNewline look_in_name
name_crosses = grind (arith, crosses, name-units, name-local)

-- As the code sees it.
pub name_goes_on : (t : List ℕ) → goes_on look_in_name t ≡ is_unclosed (reach look_in_name Open t).how
name_goes_on t = goes_on_is look_in_name t name-units (name-local (10 ∷ []) refl) refl

-- A name as the code takes it.
pub name_applies : (t : List ℕ) (ps : List Place) (r : Reached) (opener taken : ℕ) (s new : ScanState)
    → r ≡ reached (reach look_in_name Open (drop 2 t))
    → opener ≡ opener_after (ended_as Cut r.how) (drop (r.size + r.close) (drop 2 t))
    → taken ≡ (if takes_opener s then opener else 0)
    → at_line_ends 1 (take (name_match (takes_opener s) t).size t) ≡ length ps
    → new ≡ occurrence (begins (codes "@(") t) (unescaped (reach look_in_name Open (drop 2 t)).units)
    (ended_as Cut r.how)
    (nat_lt 0 opener) s.here (passed move_to ps s)
    → AppliesOver (name_match (takes_opener s) t) t ps (2 + (r.size + r.close) + taken) s new
name_applies t ps r opener taken s new is after take_is lines made =
    let m = reach look_in_name Cut (drop 2 t) in
    let size = size-at_end item.Name Cut (drop 2 t) r is in
    let how = how-at_end item.Name Cut (drop 2 t) r is in
    let f = name_match (takes_opener s) t in
    let sign : opener ≡ opener_after m.how (drop (2 + reach_size m) t) = after
    ∙ (λ i. opener_after (how i) (drop (size i) (drop 2 t)))
    ∙ ap (opener_after m.how) (sym (drop-sum 2 (reach_size m) t)) in
    let units : unescaped (reach look_in_name Open (drop 2 t)).units ≡ unescaped m.units =
    ap (λ (v : Reach). unescaped v.units) (sym (reach-at_end item.Name Cut (drop 2 t))) in
    record {
      size = grind arith;
      state = λ later.
          ap (on (occurrence (begins (codes "@(") t) (unescaped m.units) m.how
          (nat_lt 0 (opener_after m.how (drop (2 + reach_size m) t))) s.here))
          (each-passed move_to (take f.size t) ps s later lines)
          ∙ sym (ap (λ (v : ScanState). reading v later) (made
          ∙ (λ i. occurrence (begins (codes "@(") t) (units i) (how i) (nat_lt 0 (sign i)) s.here
          (passed move_to ps s))));
    }
  where
    sized : (takes : Bool) (n m opener sign taken : ℕ) → n ≡ m → opener ≡ sign
        → taken ≡ (if takes then opener else 0) → n + taken ≡ (if takes then m + sign else m)
    sized true n m opener sign taken e f g = omega (arith, e, f, g)
    sized false n m opener sign taken e f g = omega (arith, e, g)

-- A name without codes is its bytes.
pub name_spelled : (inner x : List ℕ) (r : Reached) (plain : ℕ) → r ≡ reached (reach look_in_name Open inner)
    → plain ≡ prefix_len is_skipped inner → plain ≡ r.size → x ≡ take plain inner
    → x ≡ unescaped (reach look_in_name Open inner).units
name_spelled inner x r plain is first all text = grind (arith, units-prefix, item-some, text_stays, none_before)

-- `@<` or `@(` begins a name.
abbrev takes_in : Context → Bool
takes_in CText = false
takes_in _ = true

section_names : (c : Context) (includes : Bool) (w : List ℕ) → reads_names c ≡ true → is_head c ≡ false
    → (match_in c includes (64 ∷ 60 ∷ w) ≡ name_match (takes_in c) (64 ∷ 60 ∷ w))
    × (opens_in c (64 ∷ 60 ∷ w) ≡ opens_name (64 ∷ 60 ∷ w))
section_names Limbo includes w h k = cc
section_names (Definition begun) includes w h k = cc
section_names _ includes w h k = (refl, refl)

file_names : (c : Context) (includes : Bool) (w : List ℕ) → reads_names c ≡ true → is_head c ≡ false
    → (match_in c includes (64 ∷ 40 ∷ w) ≡ name_match (takes_in c) (64 ∷ 40 ∷ w))
    × (opens_in c (64 ∷ 40 ∷ w) ≡ opens_name (64 ∷ 40 ∷ w))
file_names Limbo includes w h k = cc
file_names (Definition begun) includes w h k = cc
file_names _ includes w h k = (refl, refl)

takes_same : (c : Context) (s : ScanState) → s.context ≡ c → takes_opener s ≡ takes_in c
takes_same _ s h = ap takes_in h

pub is_name : (s : ScanState) (u : List ℕ) → reads_names s.context ≡ true → is_head s.context ≡ false
    → starts_name u ≡ true → IsNext s u (name_match (takes_opener s) u) (opens_name u)
is_name s u c head h = grind (arith, two, section_names, file_names, takes_same, enter_same)

pub name_two : (w : List ℕ) → starts_name w ≡ true → 2 ≤ length w
name_two w h = grind (arith, begins-size)

pub name_over : (takes : Bool) (w line : List ℕ) → starts_name w ≡ true → opens_name w ≡ true
    → (opens_name (with_line w line) ≡ goes_on look_in_name line)
    × (length w + 1 ≤ (name_match takes (with_line w line)).size)
name_over takes w line sign h = grind (arith, over look_in_name name_crosses 2 w line (name_two w sign) h)

pub name_ended : (takes : Bool) (w : List ℕ) → starts_name w ≡ true → opens_name w ≡ true
    → (name_match takes w).size ≡ length w
name_ended takes w sign h =
    let n = 2 + reach_size (reach look_in_name Cut (drop 2 w)) in
    let cut = how-at_end item.Name Cut (drop 2 w) _ refl in
    let none : opener_after (reach look_in_name Cut (drop 2 w)).how (drop n w) ≡ 0 =
    ap (λ (e : End). opener_after e (drop n w)) (sym cut)
    ∙ not_closed (reach look_in_name Open (drop 2 w)).how (drop n w)
    (sym (name_goes_on (drop 2 w)) ∙ h)
    in
    whole takes n _ none ∙ over_ended look_in_name name_crosses 2 w (name_two w sign) h
  where
    not_closed : (how : End) (t : List ℕ) → is_unclosed how ≡ true → opener_after (ended_as Cut how) t ≡ 0
    not_closed Open t h = refl
    not_closed _ t h = cc

    whole : (takes : Bool) (n sign : ℕ) → sign ≡ 0 → (if takes then n + sign else n) ≡ n
    whole true n sign h = omega (arith, h)
    whole false n sign h = refl
