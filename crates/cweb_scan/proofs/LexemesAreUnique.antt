-- The lexemes of a source are the only list that the rules allow.
use Rattle.cweb_scan.proofs.Common.{◌≡◌, ℕ, ◌≤◌, suc, zero, List, [], ◌∷◌, length, drop, refl, ap, sym, arith, take-append-drop, length-append, subst, take-append_seam, drop-append_seam, length-drop, length-take-le, Lexeme, Reading, after_lexeme, next_match, lexemes, AreLexemes}
use Rattle.cweb_scan.proofs.NextMatchPays.{fair}
use Rattle.cweb_scan.proofs.FirstLexeme.{first, pieces_first}

pub ArePieces-unique : (r : Reading) (t : List ℕ) (ps : List Lexeme) → AreLexemes r t ps → ps ≡ lexemes r t
ArePieces-unique r t [] h = sym (ap (lexemes r) h)
ArePieces-unique r [] (p ∷ ps) h = absurd (omega (arith, ap length h.1, length-append p.bytes h.0, h.2))
ArePieces-unique r (b ∷ t) (p ∷ ps) h =
    grind (arith, take-append_seam, drop-append_seam, pieces_first, ArePieces-unique (after_lexeme r p) h.0 ps h.4)

are_pieces_in : (n : ℕ) (r : Reading) (t : List ℕ) → length t ≤ n → AreLexemes r t (lexemes r t)
are_pieces_in n r [] h = refl
are_pieces_in zero r (b ∷ t) h = absurd (omega arith)
are_pieces_in (suc n) r (b ∷ t) h =
    let fits = fair r.state b t in
    let m = (next_match r.state (b ∷ t)).size in
    let p = first r (b ∷ t) in
    let rest = drop m (b ∷ t) in
    let short = are_pieces_in n (after_lexeme r p) rest (omega (arith, length-drop m (b ∷ t), fits.some)) in
    let len = length-take-le m (b ∷ t) fits.within in
    subst (AreLexemes r (b ∷ t)) (sym (pieces_first r b t fits.some))
    (rest, sym (take-append-drop m (b ∷ t)), omega (arith, len, fits.some), record { kind = refl; size = len }, short)

pub are_pieces : (r : Reading) (t : List ℕ) → AreLexemes r t (lexemes r t)
are_pieces r t = are_pieces_in (length t) r t (omega arith)
