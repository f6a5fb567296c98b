-- All lexemes of a source satisfy a relation that the moves satisfy.
use Rattle.cweb_scan.proofs.Common.{◌≡◌, ◌<◌, ℕ, List, [], ◌∷◌, ◌++◌, length, ap, sym, ◌∙◌, subst, arith, length-append, append-nil, take-append_seam, flat_map, fold, Place, Kind, Lexeme, Pays, Reading, after_lexeme, AreLexemes, next_match, lexemes, lex, Tells, ends-append}
use Rattle.cweb_rules.proofs.Newlines.{is_known}
use Rattle.cweb_scan.proofs.NextMatchPays.{fair}
use Rattle.cweb_scan.proofs.Moves.{Moves}
use Rattle.cweb_scan.proofs.LexemeMoves.{Costs, after-walks}
use Rattle.cweb_scan.proofs.LexemesAreUnique.{are_pieces}

abbrev pub bytes_in : List Lexeme → List ℕ
bytes_in ps = flat_map (λ p. p.bytes) ps

-- The next lexeme pays, and its newlines are counted.
pub fits : (r : Reading) (t bytes rest : List ℕ) (k : Kind) → t ≡ bytes ++ rest → 0 < length bytes
    → k ≡ (next_match r.state t).kind → length bytes ≡ (next_match r.state t).size
    → Pays r.state.context k bytes × Tells k bytes
fits r [] bytes rest k e some same size = absurd (omega (arith, ap length e, length-append bytes rest, some))
fits r (b ∷ t) bytes rest k e some same size = grind (arith, take-append_seam, fair, is_known)

-- The lexemes concatenate to the source.
pub joined : (r : Reading) (t : List ℕ) (ps : List Lexeme) → AreLexemes r t ps → bytes_in ps ≡ t
joined r t [] h = sym h
joined r t (p ∷ ps) h = ap (λ u. p.bytes ++ u) (joined (after_lexeme r p) h.0 ps h.4) ∙ sym h.1

module _ {Ok : Place → Type 0} {R : ℕ → ℕ → ℕ → ℕ → Reading → Reading → Type 0} (w : Moves Ok R) where
  -- The first lexemes of a source.
  pub pieces-walk : (before more : List Lexeme) (r : Reading) (t : List ℕ) → AreLexemes r t (before ++ more)
      → Costs R (bytes_in before) r (fold after_lexeme r before)
  pieces-walk [] more r t h = w.nothing r
  pieces-walk (p ∷ ps) more r t h =
      let fit = fits r t p.bytes h.0 p.kind h.1 h.2 h.3.kind h.3.size in
      w.within _ _ _ _ (w.both (after-walks w r p h.2 fit.0 fit.1) (pieces-walk ps more (after_lexeme r p) h.0 h.4))
      (omega (arith, ends-append p.bytes (bytes_in ps), length-append p.bytes (bytes_in ps)))

  pub run-walks : (r : Reading) (t : List ℕ) → Costs R t r (lex r t)
  run-walks r t =
      let all = are_pieces r t in
      subst (λ u. Costs R u r (lex r t)) (joined r t (lexemes r t) all)
      (pieces-walk (lexemes r t) [] r t (subst (AreLexemes r t) (sym (append-nil (lexemes r t))) all))
