-- Each lexeme of a scan satisfies the relation of the moves, and how much it emits at most.
use Rattle.cweb_scan.proofs.Common.{◌≡◌, ◌≤◌, ℕ, ◌+◌, ◌*◌, Bool, true, false, List, [], ◌∷◌, Some, None, length, refl, ap, arith, if◌then◌else◌, codes, bytes_eq, flat_map, fold, decimal, Place, Word, Number, Context, Limbo, Definition, unescaped, Kind, Lexeme, Skipped, Section, Code, Letter, ControlText, Constant, Blanks, LineEnd, Comment, Quoted, Defined, Identifier, Numeral, Punctuator, at_line_ends, Pays, Reading, on, next_line, each_line_end, literal_unit, stays_in_head, enter_in, enter, item, after_lexeme, comment_line_end, ScanState, move_to, drop_definition, is_line_end, ReplacementTooLong, FaultyConstant}
use Rattle.cweb_rules.proofs.UnitNewlines.{Tells, none-ends, ends-append}
use Rattle.cweb_rules.specs.Matches.{Occurrence, Verbatim}
use Rattle.cweb_scan.proofs.Moves.{Moves, OfHead}
use Rattle.cweb_scan.proofs.Moves as step

no_line_ends : (t : List ℕ) → at_line_ends 0 t ≡ 0
no_line_ends [] = refl
no_line_ends (b ∷ t) = grind (arith, no_line_ends t)

-- An `@` is no newline.
sign-none : (u : List ℕ) → bytes_eq u (codes "@") ≡ true → at_line_ends 1 u ≡ 0
sign-none [] h = refl
sign-none (b ∷ []) h = grind (arith, none-ends)
sign-none (b ∷ d ∷ u) h = grind arith

-- Tokens owed before a head ends are owed after it.
enter-defined : (c : Context) (tight : Bool) (s : ScanState) → enter_in c (Defined tight) s ≡ s
enter-defined Limbo tight s = refl
enter-defined _ tight s = refl

pub pays_entered : (k : Kind) (bytes : List ℕ) (s : ScanState) → Pays s.context k bytes
    → Pays (enter k s).context k bytes
pays_entered (Defined tight) bytes s pays = grind (arith, enter-defined)
pays_entered _ bytes s pays = pays

-- Each byte adds at most three: to the weight, the tokens and the bytes of strings.
abbrev pub Costs : (ℕ → ℕ → ℕ → ℕ → Reading → Reading → Type 0) → List ℕ → Reading → Reading → Type 0
Costs R bytes r m = R (at_line_ends 1 bytes) (3 * length bytes) (length bytes) (length bytes) r m

module _ {Ok : Place → Type 0} {R : ℕ → ℕ → ℕ → ℕ → Reading → Reading → Type 0} (w : Moves Ok R) where
  each-walks : (f : Place → ScanState → ScanState) (n : ℕ)
      → ((r : Reading) → R 1 n n 0 r (next_line f r)) → (bytes : List ℕ) (r : Reading)
      → R (at_line_ends 1 bytes) (at_line_ends n bytes) (at_line_ends n bytes) 0 r (each_line_end f bytes r)
  each-walks f n step [] r = w.nothing r
  each-walks f n step (b ∷ t) r = elim (is_line_end b) as (λ v. R (if v then 1 + at_line_ends 1 t else at_line_ends 1 t)
      (if v then n + at_line_ends n t else at_line_ends n t) (if v then n + at_line_ends n t else at_line_ends n t) 0 r
      (each_line_end f t (if v then next_line f r else r))) [
        | true ↦ w.both (step r) (each-walks f n step t (next_line f r))
        | false ↦ each-walks f n step t r
      ]

  moves : (bytes : List ℕ) (r : Reading) → R (at_line_ends 1 bytes) 0 0 0 r (each_line_end move_to bytes r)
  moves bytes r = w.within _ 0 0 0 (each-walks move_to 0 w.advances bytes r) (omega (arith, no_line_ends bytes))

  unit-walks : (r : Reading) (u : List ℕ) → R (at_line_ends 1 u) 0 0 0 r (literal_unit r u)
  unit-walks r u = grind (arith, sign-none, moves)

  units-walk : (us : List (List ℕ)) (r : Reading)
      → R (at_line_ends 1 (flat_map (λ u. u) us)) 0 0 0 r (fold literal_unit r us)
  units-walk [] r = w.nothing r
  units-walk (u ∷ us) r = w.within _ 0 0 0 (w.both (unit-walks r u) (units-walk us (literal_unit r u)))
      (omega (arith, ends-append u (flat_map (λ v. v) us)))

  enter_in-walks : (c : Context) (k : Kind) (r : Reading) → OfHead Ok c → R 0 0 0 0 r (on (enter_in c k) r)
  enter_in-walks (Definition begun) k r ok = step.either w (stays_in_head k) r.state
      (drop_definition begun r.state) (w.nothing r) (step.drop-walks w begun r ok)
  enter_in-walks _ k r ok = w.nothing r

  item-walks : (k : Kind) (bytes : List ℕ) (r : Reading) → 1 ≤ length bytes → Pays r.state.context k bytes
      → Tells k bytes → Costs R bytes r (item k bytes r)
  item-walks Skipped bytes r some pays tells = w.within _ _ _ _ (moves bytes r) (omega arith)
  item-walks (Section starred) bytes r some pays tells =
      w.within _ _ _ _ (step.begin_section-walks w starred r) (omega arith)
  item-walks (Code effect) bytes r some pays tells = w.within _ _ _ _ (step.code-walks w effect r) (omega arith)
  item-walks (Letter byte None) bytes r some pays tells =
      w.within _ _ _ _ (step.faults_here w ReplacementTooLong r) (omega arith)
  item-walks (Letter byte (Some text)) bytes r some pays tells =
      w.within _ _ _ _ (w.replaces (record { byte = byte; text = text }) r) (omega arith)
  item-walks (ControlText how) bytes r some pays tells =
      w.within _ _ _ _ (step.control_text-walks w how r) (omega arith)
  item-walks (Verbatim units how) bytes r some pays tells =
      w.within _ _ _ _ (step.verbatim-walks w (unescaped units) how r) (omega arith)
  item-walks (Constant None) bytes r some pays tells =
      w.within _ _ _ _ (step.faults_here w FaultyConstant r) (omega arith)
  item-walks (Constant (Some n)) bytes r some pays tells =
      w.within _ _ _ _ (w.yields (Number (decimal n)) r tt) (omega arith)
  item-walks (Occurrence is_file units how opens) bytes r some pays tells = w.knowing (λ h. w.within _ _ _ _
      (w.both (moves bytes r) (step.occurrence-walks w is_file (unescaped units) how opens r.state.here _ h.here_is))
      (omega arith))
  item-walks Blanks bytes r some pays tells = w.within _ _ _ _ (step.blank-walks w r) (omega arith)
  item-walks LineEnd bytes r some pays tells =
      w.within _ _ _ _ (step.line_end-walks w r) (omega (arith, ap (at_line_ends 1) tells))
  item-walks (Comment how) bytes r some pays tells = w.knowing (λ h. w.within _ _ _ _ (w.both (step.blank-walks w r)
      (w.both (each-walks comment_line_end 1 (λ r. step.comment_line_end-walks w r.state r.later) bytes _)
      (step.comment-walks w how r.state.here _ h.here_is))) (omega arith))
  item-walks (Quoted units how) bytes r some pays tells = w.knowing (λ h. w.within _ _ _ _
      (w.both (units-walk units r) (step.literal-walks w (unescaped units) how r.state.here _ h.here_is)) (omega arith))
  item-walks (Defined tight) bytes r some pays tells =
      w.within _ _ _ _ (step.define-walks w bytes tight r pays.1) (omega arith)
  item-walks Identifier bytes r some pays tells = w.within _ _ _ _ (w.yields (Word bytes) r tt) (omega arith)
  item-walks Numeral bytes r some pays tells = w.within _ _ _ _ (w.yields (Number bytes) r tt) (omega arith)
  item-walks Punctuator bytes r some pays tells = w.within _ _ _ _ (step.punctuator-walks w bytes r) (omega arith)

  pub after-walks : (r : Reading) (p : Lexeme) → 1 ≤ length p.bytes → Pays r.state.context p.kind p.bytes
      → Tells p.kind p.bytes → Costs R p.bytes r (after_lexeme r p)
  after-walks r p some pays tells = w.knowing (λ h. w.within _ _ _ _
      (w.both (enter_in-walks r.state.context p.kind r h.begun_is) (item-walks p.kind p.bytes
      (on (enter p.kind) r) some (pays_entered p.kind p.bytes r.state pays) tells)) (omega arith))
