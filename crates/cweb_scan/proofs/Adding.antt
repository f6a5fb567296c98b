-- How much the moves of a scan add to a store's size.
use Rattle.cweb_scan.proofs.Common.{◌≡◌, ◌≤◌, ℕ, List, [], ◌∷◌, refl, arith, Place, Token, Context, Limbo, Blank, Reading, ScanState, next_line, move_to, spelling_size, occurrence_size, replacement_size, owed_tokens, AddsAtMost, total-append}
use Rattle.cweb_scan.proofs.Measures.{pushed-size, opened-size, closed-size, dropped-size}
use Rattle.cweb_scan.proofs.Moves.{Moves, Any, holds_any, size}
use Rattle.cweb_scan.proofs.TakenItems.{reading}

pub expected_some : (c : Context) → 1 ≤ owed_tokens c
expected_some Limbo = omega arith
expected_some _ = omega arith

same_size : (t : Token) → size t ≡ spelling_size t
same_size Blank = refl
same_size _ = refl

abbrev pub MoveAdds : ℕ → ℕ → ℕ → ℕ → Reading → Reading → Type 0
MoveAdds n w t b r m = AddsAtMost t b r.state m.state

moved-adds : (s : ScanState) (later : List Place) → AddsAtMost 0 0 s (next_line move_to (reading s later)).state
moved-adds s [] = omega arith
moved-adds s (p ∷ later) = omega arith

pub adds : Moves Any MoveAdds
adds = record {
  nothing = λ r. omega arith;
  both = λ x y. omega (arith, x.tokens_are, y.tokens_are, x.bytes_are, y.bytes_are);
  within = λ n w t b x h. omega (arith, x.tokens_are, x.bytes_are, h);
  knowing = λ f. f (holds_any _ _ _);
  advances = λ r. moved-adds r.state r.later;
  yields = grind (arith, pushed-size, same_size);
  faults = λ k p r h. omega arith;
  enters = λ c r h. omega (arith, expected_some r.state.context, expected_some c);
  pays = λ t h x. omega (arith, h, x.tokens_are, x.bytes_are);
  opens = grind (arith, opened-size);
  closes = grind (arith, closed-size);
  drops = grind (arith, dropped-size);
  occurs = λ o r. omega (arith, total-append occurrence_size r.state.contents.occurrences (o ∷ []));
  replaces = λ x r. omega (arith, total-append replacement_size r.state.contents.replacements (x ∷ []));
  folds = λ v r. omega arith;
  numbers = λ n ns r e. omega arith;
}
