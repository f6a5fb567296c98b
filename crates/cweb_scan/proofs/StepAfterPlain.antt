-- The step after a run of C text outside directives.
use Rattle.cweb_scan.proofs.Common.{◌≡◌, ◌≤◌, ◌<◌, ℕ, ◌+◌, ◌*◌, List, length, drop, ap, subst, arith, length-drop, too_many, ReaderModel, cost, TakesPrefix, TakesPlain, Between, HasItemRoom, ScanState, MakesProgress}
use Rattle.cweb_scan.proofs.InLineItemSteps.{at_item}
use Rattle.cweb_scan.proofs.RestByLexemes.{takes_both}

pub plain_taken : (n : ℕ) (u : List ℕ) (h v : ReaderModel) (new : ScanState) → v ≡ h → h.item ≡ Between
    → TakesPlain n u v.state new → TakesPrefix n u h (at_item v new)
plain_taken n u h v new is none t = grind (arith, is, none, t.taken v.begun)

pub plain_all : (n : ℕ) (u : List ℕ) (h new : ReaderModel) → TakesPrefix n u h new → length (drop n u) ≡ 0
    → 1 ≤ length u → MakesProgress n u h new
plain_all n u h new t none some = grind (arith, length-drop)

pub plain_then : (n m : ℕ) (u after : List ℕ) (h mid new : ReaderModel) → TakesPrefix n u h mid → after ≡ drop n u
    → MakesProgress m after mid new → MakesProgress (n + m) u h new
plain_then n m u after h mid new t is p = record {
  some = omega (arith, p.some);
  last = λ e. omega (arith, p.last e, ap (λ (w : List ℕ). length w) is, length-drop n u, t.within);
  taken = takes_both n m u h mid new t (subst (λ (w : List ℕ). TakesPrefix m w mid new) is p.taken);
}

pub plain_room : (n : ℕ) (u : List ℕ) (h new : ReaderModel) → TakesPrefix n u h new
    → cost h + 3 * length u + 8 < too_many
    → HasItemRoom 2 new.state
plain_room n u h new t room = grind arith
