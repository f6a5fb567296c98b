-- Lexemes over some lines are taken whole.
use Rattle.cweb_scan.proofs.Common.{◌≡◌, ◌≤◌, ℕ, ◌+◌, ◌*◌, false, List, [], ◌∷◌, ◌++◌, length, take, drop, ap, sym, ◌∙◌, arith, length-take-le, Place, RuleMatch, AtLineEnd, IsLine, opens_in, Reading, enter_in, item, after_lexeme, lex, names_include, next_match, ScanState, weight, Applies, AppliesOver}
use Rattle.cweb_rules.proofs.InLines.{valid}
use Rattle.cweb_rules.proofs.Newlines.{is_known}
use Rattle.cweb_scan.proofs.FirstLexeme.{first}
use Rattle.cweb_scan.proofs.NextMatchPays.{fair}
use Rattle.cweb_scan.proofs.TakenItems.{reading, item_line, run_line_item}
use Rattle.cweb_scan.proofs.Weights.{piece-weight}

-- A lexeme with its newlines was taken, whatever follows its last line.
pub record TakesWhole (n : ℕ) (u : List ℕ) (ps : List Place) (s new : ScanState) : Type 0 where
  pub some : 1 ≤ n
  pub within : n ≤ length u
  pub adds : weight new ≤ weight s + 3 * n
  pub same : (later : List Place) (more : List ℕ) → AtLineEnd more
      → lex (reading new later) (drop n u ++ more) ≡ lex (reading s (ps ++ later)) (u ++ more)

whole_of : (s new : ScanState) (b : ℕ) (t : List ℕ) (ps : List Place) (n : ℕ) (f : RuleMatch)
    → enter_in s.context (next_match s (b ∷ t)).kind s ≡ s → next_match s (b ∷ t) ≡ f
    → opens_in s.context (b ∷ t) ≡ false → AppliesOver f (b ∷ t) ps n s new → TakesWhole n (b ∷ t) ps s new
whole_of s new b t ps n f stays is ends applies =
    let u = b ∷ t in
    let f0 = next_match s u in
    let fits = fair s b t in
    let size : n ≡ f0.size = applies.size ∙ ap (λ (v : RuleMatch). v.size) (sym is) in
    let long = length-take-le f0.size u fits.within in
    let after : (later : List Place) → after_lexeme (reading s (ps ++ later)) (first (reading s (ps ++ later)) u)
    ≡ reading new later =
    λ later. ap (λ (v : ScanState). item f0.kind (take f0.size u) (reading v (ps ++ later))) stays
    ∙ ap (λ (v : RuleMatch). item v.kind (take v.size u) (reading s (ps ++ later))) is ∙ applies.state later in
    let p = first (reading s (ps ++ [])) u in
    let adds = piece-weight (reading s (ps ++ [])) p (omega (arith, long, fits.some)) fits.pays
    (is_known s.context (names_include s) b t) in
    record {
      some = omega (arith, size, fits.some);
      within = omega (arith, size, fits.within);
      adds = omega (arith, adds, ap (λ (r : Reading). weight r.state) (after []), size, long);
      same = λ later more e. ap (λ k. lex (reading new later) (drop k u ++ more)) size
          ∙ ap (λ (r : Reading). lex r (drop f0.size u ++ more)) (sym (after later))
          ∙ sym (run_line_item (reading s (ps ++ later)) b t more e ends);
    }

pub takes_whole : (s new : ScanState) (u : List ℕ) (ps : List Place) (n : ℕ) (f : RuleMatch) → 1 ≤ length u
    → enter_in s.context (next_match s u).kind s ≡ s → next_match s u ≡ f
    → opens_in s.context u ≡ false → AppliesOver f u ps n s new → TakesWhole n u ps s new
takes_whole s new [] ps n f some stays is ends applies = absurd (omega (arith, some))
takes_whole s new (b ∷ t) ps n f some stays is ends applies = whole_of s new b t ps n f stays is ends applies

-- One that is in a line has no newline.
pub in_its_line : (s new : ScanState) (u : List ℕ) (n : ℕ) (f : RuleMatch) (m : ScanState) → IsLine u → 1 ≤ length u
    → next_match s u ≡ f → Applies f u n m new → AppliesOver f u [] n m new
in_its_line s new [] n f m line some is applies = absurd (omega (arith, some))
in_its_line s new (b ∷ t) n f m line some is applies = grind (arith, valid, item_line, reading)
