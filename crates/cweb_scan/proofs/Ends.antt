-- Items that a line end ends.
use Rattle.cweb_scan.proofs.Common.{arith, ◌≤◌, ◌≡◌, ℕ, zero, suc, ◌+◌, ◌-◌, List, [], ◌∷◌, length, take, drop, refl, ap, sym, ◌∙◌, Place, at_line_end, Reach, reach, reach_in, with_unit, reach_size, line_comment_match, look_in_comment, reached, End, Closed, Cut, Open, Reached, Look, Goes, Ends, Reading, each_line_end, comment_line_end, pass_comment, pass_control_text, blank, ended_as, Applies, ScanState, look_in_control, look_in_name, look_in_raw, begins, codes, IsEnd}
use Rattle.cweb_rules.specs.Matches.{control_text_match}
use Rattle.cweb_rules.specs.Items.{look_in_include}
use Rattle.cweb_rules.specs.declared.items.Item.{Item}
use Rattle.cweb_rules.specs.declared.items.Item.TheVariants.{ControlText, Name, Comment, LineComment, Literal}
use Rattle.cweb_rules.specs.declared.items.Item.TheVariants.{IncludedName, RawLiteral}
use Rattle.cweb_rules.specs.inner.LineItems.{look_of}
use Rattle.cweb_rules.proofs.Looks.{all_some, IsSome, AllSome, control-units, name-units, comment-units}
use Rattle.cweb_rules.proofs.Looks.{include-units, raw-units, literal-some}
use Rattle.cweb_rules.proofs.Lasts.{reach-fits}
pub use Rattle.cweb_rules.proofs.ItemReaches.{at_start}

abbrev pub at_end : End → Reach → Reach
at_end e r = record { units = r.units; close = r.close; how = ended_as e r.how }

ended_same : (e how : End) → IsEnd how → how ≡ ended_as e how
ended_same e Open h = absurd h
ended_same e _ h = refl

one_look : (look : List ℕ → Look) (e : End) (u t : List ℕ) (v : Look)
    → IsSome v → ((k : ℕ) → reach_in look e k t ≡ at_end e (reach_in look Open k t))
    → at_start look v u e t ≡ at_end e (at_start look v u Open t)
one_look look e u t (Goes n) h f = ap (with_unit (take n u)) (f (n - 1))
one_look look e u t (Ends n how) h f = grind (arith, ended_same)

reach_in-at_end : (look : List ℕ → Look) → AllSome look → (e : End) (k : ℕ) (t : List ℕ)
    → reach_in look e k t ≡ at_end e (reach_in look Open k t)
reach_in-at_end look some e zero [] = refl
reach_in-at_end look some e (suc k) [] = refl
reach_in-at_end look some e (suc k) (b ∷ t) = reach_in-at_end look some e k t
reach_in-at_end look some e zero (b ∷ t) =
    one_look look e (b ∷ t) t (look (b ∷ t)) (some b t) (λ k. reach_in-at_end look some e k t)

-- No unit of an item is empty.
pub item-some : (item : Item) → AllSome (look_of item)
item-some ControlText = all_some look_in_control control-units
item-some Name = all_some look_in_name name-units
item-some Comment = all_some (look_in_comment (begins (codes "*/")) 2) (comment-units (begins (codes "*/")) 2)
item-some LineComment = all_some (look_in_comment at_line_end 0) (comment-units at_line_end 0)
item-some (Literal quote) = literal-some quote
item-some IncludedName = all_some look_in_include include-units
item-some (RawLiteral sign) = all_some (look_in_raw sign.now) (raw-units sign.now)

-- An item that has no closer ends as the end of the source says, and is otherwise the same.
pub reach-at_end : (item : Item) (e : End) (t : List ℕ)
    → reach (look_of item) e t ≡ at_end e (reach (look_of item) Open t)
reach-at_end item e t = reach_in-at_end (look_of item) (item-some item) e 0 t

pub size-at_end : (item : Item) (e : End) (t : List ℕ) (r : Reached) → r ≡ reached (reach (look_of item) Open t)
    → r.size + r.close ≡ reach_size (reach (look_of item) e t)
size-at_end item e t r is = grind (arith, reach-at_end)

pub extent_fits : (item : Item) (t : List ℕ) (r : Reached) → r ≡ reached (reach (look_of item) Open t)
    → r.size + r.close ≤ length t
extent_fits item t r is = omega (arith, ap (λ (v : Reached). v.size + v.close) is, reach-fits item t)

pub how-at_end : (item : Item) (e : End) (t : List ℕ) (r : Reached) → r ≡ reached (reach (look_of item) Open t)
    → ended_as e r.how ≡ (reach (look_of item) e t).how
how-at_end item e t r is = grind (arith, reach-at_end)

pub control_yields : (t : List ℕ) (r : Reached) (s new : ScanState) → r ≡ reached
    (reach look_in_control Open (drop 2 t))
    → new ≡ pass_control_text (ended_as Cut r.how) s → Applies (control_text_match t) t (2 + (r.size + r.close)) s new
control_yields t r s new is made =
    grind (arith, size-at_end ControlText Cut (drop 2 t) r is, made, how-at_end ControlText Cut (drop 2 t) r is)

abbrev pub nothing_later : ScanState → Reading
nothing_later s = record { state = s; later = [] }

-- No newline is within a line.
pub none_to_come : (f : Place → ScanState → ScanState) (t : List ℕ) (s : ScanState)
    → each_line_end f t (nothing_later s) ≡ nothing_later s
none_to_come f [] s = refl
none_to_come f (b ∷ t) s = grind (arith, none_to_come f t s)

pub line_comment_yields : (t : List ℕ) (r : Reached) (s new : ScanState)
    → r ≡ reached (reach (look_in_comment at_line_end 0) Open (drop 2 t)) → new
    ≡ pass_comment (ended_as Closed r.how) s.here (blank s)
    → Applies (line_comment_match t) t (2 + (r.size + r.close)) s new
line_comment_yields t r s new is made =
    let look = look_in_comment at_line_end 0 in
    let n = 2 + reach_size (reach look Closed (drop 2 t)) in
    record {
      size = ap (λ k. 2 + k) (size-at_end LineComment Closed (drop 2 t) r is);
      state = made ∙ ap (λ (e : End). pass_comment e s.here (blank s)) (how-at_end LineComment Closed (drop 2 t) r is)
          ∙ ap (λ (m : Reading). pass_comment (reach look Closed (drop 2 t)).how s.here m.state)
          (sym (none_to_come comment_line_end (take n t) (blank s)));
    }
