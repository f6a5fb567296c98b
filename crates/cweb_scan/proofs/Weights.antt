-- How much each step adds to the weight: tokens, parts, occurrences and sections.
use Rattle.cweb_scan.proofs.Common.{◌≤◌, ℕ, ◌+◌, ◌*◌, List, [], ◌∷◌, length, arith, length-append, Place, PartKind, Token, PartsSoFar, with_opened_part, with_pushed_token, Lexeme, Pays, Reading, next_line, ScanState, move_to, line_end, comment_line_end, after_lexeme, weight, append-nil, Tells, Context, Macro, CText, Newline, line_end_in, line_end_token}
use Rattle.cweb_store.specs.surface.Tokens.{token_count, part_count}
use Rattle.cweb_store.proofs.CallerLemmas.{part_count_pushed, part_count_dropped, part_count_closed, token_count_closed, token_count_dropped, tokens-last}
use Rattle.cweb_scan.proofs.Moves as step
use Rattle.cweb_scan.proofs.Moves.{Moves, Any, holds_any}
use Rattle.cweb_scan.proofs.LexemeMoves.{after-walks}
use Rattle.cweb_scan.proofs.TakenItems.{reading}

token_pushed : (t : Token) (v : PartsSoFar) → token_count (with_pushed_token t v) ≤ token_count v + 1
token_pushed t v = grind (arith, tokens-last, length-append)

token_opened : (kind : PartKind) (v : PartsSoFar) → token_count (with_opened_part kind v) ≤ token_count v
token_opened kind v = grind (arith, tokens-last, append-nil)

part_opened : (kind : PartKind) (v : PartsSoFar) → part_count (with_opened_part kind v) ≤ part_count v + 1
part_opened kind v = grind (arith, length-append)

line_end_in-tokens : (c : Context) (p : Place) (s : ScanState)
    → token_count (line_end_in c p s).contents.parts ≤ token_count s.contents.parts + 1
line_end_in-tokens Macro p s = token_pushed Newline s.contents.parts
line_end_in-tokens CText p s = token_pushed (line_end_token p s) s.contents.parts
line_end_in-tokens _ p s = omega arith

pub comment_line_end-tokens : (p : Place) (s : ScanState)
    → token_count (comment_line_end p s).contents.parts ≤ token_count s.contents.parts + 1
comment_line_end-tokens p s = grind (arith, line_end_in-tokens)

abbrev Weighs : ℕ → ℕ → ℕ → ℕ → Reading → Reading → Type 0
Weighs n w t b r m = weight m.state ≤ weight r.state + w

moved-weight : (s : ScanState) (later : List Place)
    → Weighs 1 0 0 0 (reading s later) (next_line move_to (reading s later))
moved-weight s [] = omega arith
moved-weight s (p ∷ later) = omega arith

pub weighs : Moves Any Weighs
weighs = record {
  nothing = λ r. omega arith;
  both = λ x y. omega (arith, x, y);
  within = λ n w t b x h. omega (arith, x, h);
  knowing = λ f. f (holds_any _ _ _);
  advances = λ r. moved-weight r.state r.later;
  yields = grind (arith, token_pushed, part_count_pushed);
  faults = λ k p r h. omega arith;
  enters = λ c r h. omega arith;
  pays = λ t h x. omega (arith, x);
  opens = λ kind r. omega (arith, token_opened kind r.state.contents.parts, part_opened kind r.state.contents.parts);
  closes = grind (arith, token_count_closed, part_count_closed);
  drops = λ r. omega (arith, token_count_dropped r.state.contents.parts, part_count_dropped r.state.contents.parts);
  occurs = λ o r. omega (arith, length-append r.state.contents.occurrences (o ∷ []));
  replaces = λ x r. omega arith;
  folds = λ v r. omega arith;
  numbers = λ n ns r e. omega (arith, e);
}

pub line_end-weight : (p : Place) (s : ScanState) → weight (line_end p s) ≤ weight s + 1
line_end-weight p s = step.line_end-walks weighs (reading s (p ∷ []))

-- Each byte of a lexeme adds at most three.
pub piece-weight : (r : Reading) (p : Lexeme) → 1 ≤ length p.bytes → Pays r.state.context p.kind p.bytes
    → Tells p.kind p.bytes → weight (after_lexeme r p).state ≤ weight r.state + 3 * length p.bytes
piece-weight r p some pays tells = after-walks weighs r p some pays tells
