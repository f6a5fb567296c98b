-- The small steps of a scan begin and end no part, section, name or macro. What they preserve holds after each lexeme
-- that takes only such steps.
use Rattle.cweb_scan.proofs.Common.{◌≡◌, ℕ, Bool, true, false, ◌||◌, ◌&&◌, not, List, [], ◌∷◌, Some, None, refl, if◌then◌else◌, codes, fold, decimal, Place, Token, Word, Number, Literal, Verbatim, Punct, Blank, Newline, Mark, Join, Defs, Name, Head, Tail, Replacement, Context, Definition, Macro, CText, End, Closed, Cut, ScanKind, CommentDidNotEnd, StringDidNotEnd, ControlTextDidNotEnd, ReplacementTooLong, FaultyConstant, unescaped, is_line_end, is_punct, is_last_blank, is_next_line, Kind, Skipped, Section, Code, Letter, ControlText, Constant, Blanks, LineEnd, Comment, Quoted, Defined, Identifier, Numeral, Punctuator, ScanState, emit, report_at, move_to, drop_definition, in_directive, directive, Reading, on, next_line, each_line_end, literal_unit, line_end_in, line_end, comment_line_end, blank, pass_control_text, emit_verbatim, pass_comment, emit_literal, stays_in_head, enter_in, enter, item, arith}
use Rattle.cweb_rules.specs.Matches.{Occurrence, Verbatim as VerbatimText}
use Rattle.cweb_store.specs.Calls.{with_replacement}
use Rattle.cweb_scan.proofs.TakenItems.{reading}

-- The tokens that small steps emit.
abbrev pub IsSmall : Token → Type 0
IsSmall (Name n) = ⊥
IsSmall (Head n) = ⊥
IsSmall (Tail n) = ⊥
IsSmall Defs = ⊥
IsSmall Join = ⊥
IsSmall t = Unit {0}

-- The kinds that take only small steps.
abbrev pub IsSmallKind : Kind → Type 0
IsSmallKind (Section starred) = ⊥
IsSmallKind (Code effect) = ⊥
IsSmallKind (Occurrence is_file units how opens) = ⊥
IsSmallKind (Defined tight) = ⊥
IsSmallKind kind = Unit {0}

-- The small steps preserve a property of the state.
pub record Preserves (I : ScanState → Type 0) : Type 0 where
  pub emits : (t : Token) (s : ScanState) → IsSmall t → I s → I (emit t s)
  pub reports : (k : ScanKind) (p : Place) (s : ScanState) → I s → I (report_at k p s)
  pub moves : (p : Place) (s : ScanState) → I s → I (move_to p s)
  pub replaces : (x : Replacement) (s : ScanState) → I s → I (record s { contents = with_replacement x s.contents })
  pub folds : (v : Bool) (s : ScanState) → I s → I (record s { folded = v })
  pub drops : (begun : Place) (s : ScanState) → s.context ≡ Definition begun → I s → I (drop_definition begun s)

module _ {I : ScanState → Type 0} (w : Preserves I) where
  either : (v : Bool) (x y : ScanState) → I x → I y → I (if v then x else y)
  either true x y f g = f
  either false x y f g = g

  newline : (a b : Bool) (p : Place) (s : ScanState) → I s
      → I (emit (if a then Newline else (if b then Mark p else Newline)) s)
  newline true b p s h = w.emits Newline s tt h
  newline false true p s h = w.emits (Mark p) s tt h
  newline false false p s h = w.emits Newline s tt h

  line_end_in-holds : (c : Context) (p : Place) (s : ScanState) → I s → I (line_end_in c p s)
  line_end_in-holds Macro p s h = w.moves p _ (w.emits Newline s tt h)
  line_end_in-holds CText p s h = w.moves p _ (newline (in_directive s && is_punct (codes "\\") (directive s).last)
      ((in_directive s && s.folded) || not (is_next_line s.here p)) p s h)
  line_end_in-holds _ p s h = w.moves p s h

  line_end-holds : (p : Place) (s : ScanState) → I s → I (line_end p s)
  line_end-holds p s h = line_end_in-holds s.context p s h

  comment_line_end-holds : (p : Place) (s : ScanState) → I s → I (comment_line_end p s)
  comment_line_end-holds p s h =
      either (in_directive s) (move_to p s) (line_end p s) (w.moves p s h) (line_end-holds p s h)

  next-holds : (f : Place → ScanState → ScanState) → ((p : Place) (s : ScanState) → I s → I (f p s))
      → (s : ScanState) (later : List Place) → I s → I (next_line f (reading s later)).state
  next-holds f step s [] h = h
  next-holds f step s (p ∷ later) h = step p s h

  each-holds : (f : Place → ScanState → ScanState) → ((p : Place) (s : ScanState) → I s → I (f p s))
      → (bytes : List ℕ) (r : Reading) → I r.state → I (each_line_end f bytes r).state
  each-holds f step [] r h = h
  each-holds f step (b ∷ t) r h =
      elim (is_line_end b) as (λ v. I (each_line_end f t (if v then next_line f r else r)).state) [
        | true ↦ each-holds f step t (next_line f r) (next-holds f step r.state r.later h)
        | false ↦ each-holds f step t r h
      ]

  pub moved : (bytes : List ℕ) (r : Reading) → I r.state → I (each_line_end move_to bytes r).state
  moved bytes r h = each-holds move_to w.moves bytes r h

  blank-holds : (s : ScanState) → I s → I (blank s)
  blank-holds s h =
      either (in_directive s && not (is_last_blank (directive s).last)) (emit Blank s) s (w.emits Blank s tt h) h

  unit-holds : (r : Reading) (u : List ℕ) → I r.state → I (literal_unit r u).state
  unit-holds r u h = grind (arith, moved)

  units-hold : (us : List (List ℕ)) (r : Reading) → I r.state → I (fold literal_unit r us).state
  units-hold [] r h = h
  units-hold (u ∷ us) r h = units-hold us (literal_unit r u) (unit-holds r u h)

  control_text-holds : (how : End) (s : ScanState) → I s → I (pass_control_text how s)
  control_text-holds Cut s h = w.reports ControlTextDidNotEnd s.here s h
  control_text-holds _ s h = h

  verbatim-holds : (text : List ℕ) (how : End) (s : ScanState) → I s → I (emit_verbatim text how s)
  verbatim-holds text Closed s h = w.emits (Verbatim text) s tt h
  verbatim-holds text Cut s h = w.reports ControlTextDidNotEnd s.here s h
  verbatim-holds text _ s h = h

  comment-holds : (how : End) (p : Place) (s : ScanState) → I s → I (pass_comment how p s)
  comment-holds Cut p s h = w.reports CommentDidNotEnd p s h
  comment-holds _ p s h = h

  literal-holds : (text : List ℕ) (how : End) (p : Place) (s : ScanState) → I s → I (emit_literal text how p s)
  literal-holds text Closed p s h = w.emits (Literal text) s tt h
  literal-holds text Cut p s h = w.reports StringDidNotEnd p _ (w.emits (Literal text) s tt h)
  literal-holds text _ p s h = h

  enter_in-holds : (c : Context) (k : Kind) (s : ScanState) → s.context ≡ c → I s → I (enter_in c k s)
  enter_in-holds (Definition begun) k s e h =
      either (stays_in_head k) s (drop_definition begun s) h (w.drops begun s e h)
  enter_in-holds _ k s e h = h

  pub enter-holds : (k : Kind) (s : ScanState) → I s → I (enter k s)
  enter-holds k s h = enter_in-holds s.context k s refl h

  -- The property holds after a lexeme that takes only small steps.
  pub item-holds : (k : Kind) (bytes : List ℕ) (r : Reading) → IsSmallKind k → I r.state → I (item k bytes r).state
  item-holds Skipped bytes r small h = moved bytes r h
  item-holds (Section starred) bytes r small h = absurd small
  item-holds (Code effect) bytes r small h = absurd small
  item-holds (Letter byte None) bytes r small h = w.reports ReplacementTooLong r.state.here r.state h
  item-holds (Letter byte (Some text)) bytes r small h = w.replaces (record { byte = byte; text = text }) r.state h
  item-holds (ControlText how) bytes r small h = control_text-holds how r.state h
  item-holds (VerbatimText units how) bytes r small h = verbatim-holds (unescaped units) how r.state h
  item-holds (Constant None) bytes r small h = w.reports FaultyConstant r.state.here r.state h
  item-holds (Constant (Some n)) bytes r small h = w.emits (Number (decimal n)) r.state tt h
  item-holds (Occurrence is_file units how opens) bytes r small h = absurd small
  item-holds Blanks bytes r small h = blank-holds r.state h
  item-holds LineEnd bytes r small h = next-holds line_end line_end-holds r.state r.later h
  item-holds (Comment how) bytes r small h = comment-holds how r.state.here _
      (each-holds comment_line_end comment_line_end-holds bytes (on blank r) (blank-holds r.state h))
  item-holds (Quoted units how) bytes r small h =
      literal-holds (unescaped units) how r.state.here _ (units-hold units r h)
  item-holds (Defined tight) bytes r small h = absurd small
  item-holds Identifier bytes r small h = w.emits (Word bytes) r.state tt h
  item-holds Numeral bytes r small h = w.emits (Number bytes) r.state tt h
  item-holds Punctuator bytes r small h =
      w.folds (in_directive r.state && r.state.folded) _ (w.emits (Punct bytes) r.state tt h)
