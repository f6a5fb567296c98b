-- The state after a lexeme that ends in its line, whatever lines follow.
use Rattle.cweb_scan.proofs.Common.{◌≡◌, ℕ, false, List, [], ◌∷◌, ◌++◌, take, drop, refl, ap, ◌∙◌, Place, Reading, item, after_lexeme, Kind, Skipped, LineEnd, Comment, Quoted, RuleMatch, AtLineEnd, opens_in, next_match, lex, fold, take-append-le, drop-append-le, names_include, match_in, ScanState, arith}
use Rattle.cweb_rules.specs.Matches.{Occurrence}
use Rattle.cweb_rules.proofs.LineMatches.{prefix_line}
use Rattle.cweb_rules.proofs.InLines.{InLine}
use Rattle.cweb_scan.proofs.NextMatchPays.{fair}
pub use Rattle.cweb_scan.proofs.LineUnits.{reading}
use Rattle.cweb_scan.proofs.LineUnits.{none-line, units_line}
use Rattle.cweb_scan.proofs.FirstLexeme.{first, pieces_first}

pub item_line : (k : Kind) (bytes : List ℕ) (s : ScanState) (later : List Place) → InLine k bytes
    → item k bytes (reading s later) ≡ reading (item k bytes (reading s [])).state later
item_line Skipped bytes s later h = grind (arith, none-line)
item_line (Occurrence is_file us how opens) bytes s later h = grind (arith, none-line)
item_line LineEnd bytes s later h = absurd h
item_line (Comment how) bytes s later h = grind (arith, none-line)
item_line (Quoted us how) bytes s later h = grind (arith, units_line)
item_line _ bytes s later h = refl

abbrev with_prefix : Reading → List ℕ → RuleMatch → Reading
with_prefix r t f = lex (after_lexeme r (record { kind = f.kind; bytes = take f.size t })) (drop f.size t)

-- The reading after the next lexeme.
pub run_as : (r : Reading) (b : ℕ) (t : List ℕ) (f : RuleMatch)
    → match_in r.state.context (names_include r.state) (b ∷ t) ≡ f → lex r (b ∷ t) ≡ with_prefix r (b ∷ t) f
run_as r b t f h = ap (fold after_lexeme r) (pieces_first r b t (fair r.state b t).some) ∙ ap (with_prefix r (b ∷ t)) h

-- The reading after such a lexeme, and what follows.
pub run_line_item : (r : Reading) (b : ℕ) (t more : List ℕ) → AtLineEnd more → opens_in r.state.context (b ∷ t) ≡ false
    → lex r (b ∷ t ++ more)
    ≡ lex (after_lexeme r (first r (b ∷ t))) (drop (next_match r.state (b ∷ t)).size (b ∷ t) ++ more)
run_line_item r b t more e h =
    let f = next_match r.state (b ∷ t) in
    let fits = (fair r.state b t).within in
    ap (fold after_lexeme r) (pieces_first r b (t ++ more) (fair r.state b (t ++ more)).some)
    ∙ ap (with_prefix r (b ∷ t ++ more)) (prefix_line r.state.context (names_include r.state) b t more e h)
    ∙ ap (λ u. lex (after_lexeme r (record { kind = f.kind; bytes = u })) (drop f.size (b ∷ t ++ more)))
    (take-append-le f.size (b ∷ t) more fits)
    ∙ ap (λ u. lex (after_lexeme r (first r (b ∷ t))) u) (drop-append-le f.size (b ∷ t) more fits)
