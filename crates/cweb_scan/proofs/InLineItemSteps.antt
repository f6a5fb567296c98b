-- One step without an open item: a lexeme that ends in its line.
use Rattle.cweb_scan.proofs.Common.{refl, AppliesOver, ◌≡◌, ◌≤◌, ℕ, false, List, [], length, sym, subst, arith, RuleMatch, rule_match, IsLine, opens_in, enter_in, Applies, is_head, ReaderModel, MakesProgress, Between, next_match, ScanState}
use Rattle.cweb_scan.proofs.OpeningSteps.{opened}
use Rattle.cweb_scan.proofs.WholeItems.{takes_whole, in_its_line}
use Rattle.cweb_scan.proofs.FirstMatchTaken.{enter_same}

-- A reader between two items, with another state.
abbrev pub at_item : ReaderModel → ScanState → ReaderModel
at_item v s = record { state = s; item = v.item; begun = v.begun }

-- A lexeme of a source that the line ends, or of a line.
pub whole_at : (n : ℕ) (u : List ℕ) (h v : ReaderModel) (new : ScanState) (f : RuleMatch) → v ≡ h → h.item ≡ Between
    → 1 ≤ length u → enter_in h.state.context (next_match h.state u).kind h.state ≡ h.state → next_match h.state u ≡ f
    → opens_in h.state.context u ≡ false → AppliesOver f u [] n v.state new → MakesProgress n u h (at_item v new)
whole_at n u h v new f is none some stays match ends = subst (λ (k : ReaderModel). AppliesOver f u [] n k.state new
    → MakesProgress n u h (at_item k new)) (sym is) (λ applies.
    let w = takes_whole h.state new u [] n f some stays match ends applies in
    subst (λ i. MakesProgress n u (opened h.state h.begun i) (opened new h.begun i)) (sym none) (record {
      some = w.some;
      last = λ e. cc;
      taken = record { begun = refl; within = w.within; adds = omega (arith, w.adds); same = w.same };
    }))

-- A lexeme that ends no head.
pub staying_at : (n : ℕ) (u : List ℕ) (h v : ReaderModel) (new : ScanState) (f : RuleMatch) → v ≡ h → h.item ≡ Between
    → enter_in h.state.context (next_match h.state u).kind h.state ≡ h.state → IsLine u → 1 ≤ length u
    → next_match h.state u ≡ f → opens_in h.state.context u ≡ false
    → Applies f u n v.state new → MakesProgress n u h (at_item v new)
staying_at n u h v new f is none stays line some match ends yields =
    whole_at n u h v new f is none some stays match ends (in_its_line h.state new u n f v.state line some match yields)

pub closed_at : (n : ℕ) (u : List ℕ) (h v : ReaderModel) (new : ScanState) (f : RuleMatch) → v ≡ h → h.item ≡ Between
    → is_head h.state.context ≡ false → IsLine u → 1 ≤ length u → next_match h.state u ≡ f
    → opens_in h.state.context u ≡ false → Applies f u n v.state new → MakesProgress n u h (at_item v new)
closed_at n u h v new f is none head line some rule_match ends yields = staying_at n u h v new f is none
    (enter_same h.state.context (next_match h.state u).kind h.state head) line some rule_match ends yields
