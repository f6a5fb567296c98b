-- All steps of a scan are made of a few moves. A relation that holds for the moves holds for the steps.
use Rattle.cweb_scan.proofs.Common.{◌≡◌, ◌≤◌, ℕ, ◌+◌, ◌-◌, Bool, true, false, ◌||◌, ◌&&◌, not, List, [], ◌∷◌, length, refl, arith, if◌then◌else◌, codes, Place, NameRef, PartKind, Token, Word, Number, Literal, Verbatim, Punct, Blank, Newline, Join, Defs, Name, Head, Tail, Mark, Occurrence, with_open, with_dropped, Context, Limbo, TeX, Definition, Macro, CText, Effect, Define, Format, Program, InsertDefs, Joins, EmitAt, Faulty, End, Closed, Cut, Nested, in_directive, directive, name_occurrence, Reading, on, next_line, ScanState, emit, add_name, move_to, begin_part, end_part, end_macro_in, end_macro, drop_definition, leave_in, begin_section, line_end_in, line_end, comment_line_end, blank, punctuator, apply_effect, pass_control_text, emit_verbatim, define, pass_comment, report_name_fault, use_name, open_name, name_in_context, occurrence, emit_literal, is_punct, is_last_blank, owed_tokens, ScanKind, NameDidNotEnd, NamesDoNotNest, CommentDidNotEnd, StringDidNotEnd, ControlTextDidNotEnd, MissingAt, DefinitionDropped, is_next_line, report_at, leave}
use Rattle.cweb_scan.proofs.NameSizes.{occurrence-size}
use Rattle.cweb_scan.proofs.TakenItems.{reading}
use Rattle.cweb_store.specs.Calls.{with_closed, with_replacement, Replacement}
use Rattle.cweb_store.specs.declared.parts.PartKind.TheVariants as part

-- The bytes of a token's string.
abbrev pub size : Token → ℕ
size (Word b) = length b
size (Number b) = length b
size (Literal b) = length b
size (Verbatim b) = length b
size (Punct b) = length b
size t = 0

abbrev pub OfMark : (Place → Type 0) → Token → Type 0
OfMark Ok (Mark p) = Ok p
OfMark Ok t = Unit {0}

abbrev pub OfHead : (Place → Type 0) → Context → Type 0
OfHead Ok (Definition begun) = Ok begun
OfHead Ok c = Unit {0}

abbrev pub Each : (Place → Type 0) → List Place → Type 0
Each Ok [] = Unit {0}
Each Ok (p ∷ ps) = Ok p × Each Ok ps

pub record Holds (Ok : Place → Type 0) (here : Place) (context : Context) (later : List Place) : Type 0 where
  pub here_is : Ok here
  pub begun_is : OfHead Ok context
  pub later_are : Each Ok later

abbrev pub Any : Place → Type 0
Any p = Unit {0}

of_any : (c : Context) → OfHead Any c
of_any Limbo = tt
of_any _ = tt

each_any : (ps : List Place) → Each Any ps
each_any [] = tt
each_any (p ∷ ps) = (tt, each_any ps)

pub holds_any : (p : Place) (c : Context) (ps : List Place) → Holds Any p c ps
holds_any p c ps = record { here_is = tt; begun_is = of_any c; later_are = each_any ps }

-- The relation holds for each move. R's numbers bound the newlines, the weight, and the tokens and bytes of strings
-- that the move adds. `Ok` must hold of the new places if it holds of the old ones.
pub record Moves (Ok : Place → Type 0) (R : ℕ → ℕ → ℕ → ℕ → Reading → Reading → Type 0) : Type 0 where
  pub nothing : (r : Reading) → R 0 0 0 0 r r
  pub both : {n w t b n' w' t' b' : ℕ} {r m k : Reading} → R n w t b r m → R n' w' t' b' m k
      → R (n + n') (w + w') (t + t') (b + b') r k
  pub within : {n w t b : ℕ} (n' w' t' b' : ℕ) {r m : Reading} → R n w t b r m
      → (n ≡ n') × (w ≤ w') × (t ≤ t') × (b ≤ b') → R n' w' t' b' r m
  pub knowing : {n w t b : ℕ} {r m : Reading}
      → (Holds Ok r.state.here r.state.context r.later → R n w t b r m) → R n w t b r m
  pub advances : (r : Reading) → R 1 0 0 0 r (next_line move_to r)
  pub yields : (t : Token) (r : Reading) → OfMark Ok t → R 0 1 1 (size t) r (on (emit t) r)
  pub faults : (k : ScanKind) (p : Place) (r : Reading) → Ok p → R 0 0 0 0 r (on (report_at k p) r)
  pub enters : (c : Context) (r : Reading) → OfHead Ok c
      → R 0 0 (owed_tokens c - 1) 0 r (on (λ s. record s { context = c }) r)
  -- A head owes a token, which the macro emits.
  pub pays : (t : ℕ) {n w b : ℕ} {r m : Reading} → owed_tokens r.state.context ≡ 2
      → R n w (1 + t) b (on (λ s. record s { context = Macro }) r) m → R n w t b r m
  pub opens : (kind : PartKind) (r : Reading)
      → R 0 1 0 0 r (on (λ s. record s { contents = with_open kind s.contents }) r)
  pub closes : (r : Reading) → R 0 0 0 0 r (on (λ s. record s { contents = with_closed s.contents }) r)
  pub drops : (r : Reading) → R 0 0 0 0 r (on (λ s. record s { contents = with_dropped s.contents }) r)
  pub occurs : (o : Occurrence) (r : Reading) → R 0 1 0 (length o.text) r (on (add_name o) r)
  pub replaces : (x : Replacement) (r : Reading)
      → R 0 0 0 (length x.text) r (on (λ s. record s { contents = with_replacement x s.contents }) r)
  pub folds : (v : Bool) (r : Reading) → R 0 0 0 0 r (on (λ s. record s { folded = v }) r)
  pub numbers : (n : ℕ) (ns : List ℕ) (r : Reading) → n ≡ r.state.sections
      → R 0 1 0 0 r (on (λ s. record s { sections = n + 1; starred = ns }) r)

leave-sections : (c : Context) (s : ScanState) → s.sections ≡ (leave_in c s).sections
leave-sections Limbo s = refl
leave-sections _ s = refl

module _ {Ok : Place → Type 0} {R : ℕ → ℕ → ℕ → ℕ → Reading → Reading → Type 0} (w : Moves Ok R) where
  pub either : {n c t b : ℕ} {r : Reading} {ps : List Place} (v : Bool) (x y : ScanState)
      → R n c t b r (reading x ps) → R n c t b r (reading y ps) → R n c t b r (reading (if v then x else y) ps)
  either true x y f g = f
  either false x y f g = g

  mark : (r : Reading) → R 0 1 1 0 r (on (λ s. emit (Mark s.here) s) r)
  mark r = w.knowing (λ h. w.yields (Mark r.state.here) r h.here_is)

  pub faults_here : (k : ScanKind) (r : Reading) → R 0 0 0 0 r (on (λ s. report_at k s.here s) r)
  faults_here k r = w.knowing (λ h. w.faults k r.state.here r h.here_is)

  begin_part-walks : (kind : PartKind) (r : Reading) → R 0 3 2 0 r (on (begin_part kind) r)
  begin_part-walks kind r = w.both (w.opens kind r) (w.both (w.yields (Head r.state.sections) _ tt)
      (w.both (mark _) (w.both (w.enters CText _ tt) (w.folds false _))))

  end_part-walks : (r : Reading) → R 0 0 0 0 r (on end_part r)
  end_part-walks r = w.both (w.closes r) (w.enters TeX _ tt)

  end_macro_in-walks : (c : Context) (r : Reading) → R 0 0 0 0 r (on (end_macro_in c) r)
  end_macro_in-walks Macro r = end_part-walks r
  end_macro_in-walks _ r = w.nothing r

  end_macro-walks : (r : Reading) → R 0 0 0 0 r (on end_macro r)
  end_macro-walks r = end_macro_in-walks r.state.context r

  pub drop-walks : (p : Place) (r : Reading) → Ok p → R 0 0 0 0 r (on (drop_definition p) r)
  drop-walks p r ok = w.both (w.faults DefinitionDropped p r ok) (w.enters TeX _ tt)

  leave_in-walks : (c : Context) (r : Reading) → OfHead Ok c → R 0 1 1 0 r (on (leave_in c) r)
  leave_in-walks (Definition begun) r ok = w.within 0 1 1 0 (drop-walks begun r ok) (omega arith)
  leave_in-walks Macro r ok = w.within 0 1 1 0 (end_part-walks r) (omega arith)
  leave_in-walks CText r ok = w.both (w.yields (Tail r.state.sections) r tt) (end_part-walks _)
  leave_in-walks _ r ok = w.within 0 1 1 0 (w.nothing r) (omega arith)

  pub leave-walks : (r : Reading) → R 0 1 1 0 r (on leave r)
  leave-walks r = w.knowing (λ h. leave_in-walks r.state.context r h.begun_is)

  pub begin_section-walks : (starred : Bool) (r : Reading) → R 0 2 1 0 r (on (begin_section starred) r)
  begin_section-walks starred r = w.both (leave-walks r) (w.both (w.enters TeX _ tt)
      (w.numbers r.state.sections _ _ (leave-sections r.state.context r.state)))

  newline : (a b : Bool) (p : Place) (r : Reading) → Ok p
      → R 0 1 1 0 r (on (emit (if a then Newline else (if b then Mark p else Newline))) r)
  newline true b p r ok = w.yields Newline r tt
  newline false true p r ok = w.yields (Mark p) r ok
  newline false false p r ok = w.yields Newline r tt

  line_end_in-walks : (c : Context) (s : ScanState) (later : List Place)
      → R 1 1 1 0 (reading s later) (next_line (line_end_in c) (reading s later))
  line_end_in-walks Macro s (p ∷ later) = w.both (w.yields Newline _ tt) (w.advances _)
  line_end_in-walks CText s (p ∷ later) = w.knowing (λ h. w.both
      (newline (in_directive s && is_punct (codes "\\") (directive s).last)
      ((in_directive s && s.folded) || not (is_next_line s.here p)) p (reading s (p ∷ later)) h.later_are.0)
      (w.advances _))
  line_end_in-walks _ s later = w.within 1 1 1 0 (w.advances (reading s later)) (omega arith)

  pub line_end-walks : (r : Reading) → R 1 1 1 0 r (next_line line_end r)
  line_end-walks r = line_end_in-walks r.state.context r.state r.later

  pub comment_line_end-walks : (s : ScanState) (later : List Place)
      → R 1 1 1 0 (reading s later) (next_line comment_line_end (reading s later))
  comment_line_end-walks s [] = w.within 1 1 1 0 (w.advances (reading s [])) (omega arith)
  comment_line_end-walks s (p ∷ later) = either (in_directive s) (move_to p s) (line_end p s)
      (w.within 1 1 1 0 (w.advances (reading s (p ∷ later))) (omega arith)) (line_end-walks (reading s (p ∷ later)))

  pub blank-walks : (r : Reading) → R 0 1 1 0 r (on blank r)
  blank-walks r = either (in_directive r.state && not (is_last_blank (directive r.state).last))
      (emit Blank r.state) r.state
      (w.yields Blank r tt) (w.within 0 1 1 0 (w.nothing r) (omega arith))

  pub punctuator-walks : (bytes : List ℕ) (r : Reading) → R 0 1 1 (length bytes) r (on (punctuator bytes) r)
  punctuator-walks bytes r =
      w.within 0 1 1 (length bytes) (w.both (w.yields (Punct bytes) r tt) (w.folds _ _)) (omega arith)

  pub code-walks : (e : Effect) (r : Reading) → R 0 3 2 1 r (on (apply_effect e) r)
  code-walks Define r = w.knowing (λ h.
      w.within 0 3 2 1 (w.both (end_macro-walks r) (w.enters (Definition r.state.here) _ h.here_is)) (omega arith))
  code-walks Format r = w.within 0 3 2 1 (end_macro-walks r) (omega arith)
  code-walks Program r = w.within 0 3 2 1 (w.both (end_macro-walks r) (begin_part-walks part.Unnamed _)) (omega arith)
  code-walks InsertDefs r = w.within 0 3 2 1 (w.both (w.yields Defs r tt) (mark _)) (omega arith)
  code-walks Joins r = w.within 0 3 2 1 (w.both (w.drops r) (w.yields Join _ tt)) (omega arith)
  code-walks EmitAt r = w.within 0 3 2 1 (w.yields (Punct (codes "@")) r tt) (omega arith)
  code-walks (Faulty k) r = w.within 0 3 2 1 (faults_here k r) (omega arith)
  code-walks _ r = w.within 0 3 2 1 (w.nothing r) (omega arith)

  pub control_text-walks : (how : End) (r : Reading) → R 0 0 0 0 r (on (pass_control_text how) r)
  control_text-walks Cut r = faults_here ControlTextDidNotEnd r
  control_text-walks _ r = w.nothing r

  pub verbatim-walks : (text : List ℕ) (how : End) (r : Reading)
      → R 0 1 1 (length text) r (on (emit_verbatim text how) r)
  verbatim-walks text Closed r = w.yields (Verbatim text) r tt
  verbatim-walks text Cut r = w.within 0 1 1 (length text) (faults_here ControlTextDidNotEnd r) (omega arith)
  verbatim-walks text _ r = w.within 0 1 1 (length text) (w.nothing r) (omega arith)

  -- The identifier of a head pays with the owed token.
  pub define-walks : (bytes : List ℕ) (tight : Bool) (r : Reading) → owed_tokens r.state.context ≡ 2
      → R 0 3 1 (length bytes) r (on (define bytes tight) r)
  define-walks bytes true r h = w.within 0 3 1 (length bytes)
      (w.pays 0 h (w.both (w.opens part.Macro _) (w.yields (Word bytes) _ tt))) (omega arith)
  define-walks bytes false r h = w.within 0 3 1 (length bytes) (w.pays 1 h
      (w.both (w.opens part.Macro _) (w.both (w.yields (Word bytes) _ tt) (w.yields Blank _ tt)))) (omega arith)

  pub comment-walks : (how : End) (p : Place) (r : Reading) → Ok p → R 0 0 0 0 r (on (pass_comment how p) r)
  comment-walks Cut p r ok = w.faults CommentDidNotEnd p r ok
  comment-walks _ p r ok = w.nothing r

  report_name_fault-walks : (how : End) (p : Place) (r : Reading) → Ok p → R 0 0 0 0 r (on (report_name_fault how p) r)
  report_name_fault-walks Cut p r ok = w.faults NameDidNotEnd p r ok
  report_name_fault-walks Nested p r ok = w.faults NamesDoNotNest p r ok
  report_name_fault-walks _ p r ok = w.nothing r

  use_name-walks : (n : NameRef) (opens : Bool) (p : Place) (r : Reading) → Ok p
      → R 0 2 2 0 r (on (use_name n opens p) r)
  use_name-walks n true p r ok = w.both (w.yields (Name n) r tt) (w.both (mark _) (w.faults MissingAt p _ ok))
  use_name-walks n false p r ok = w.both (w.yields (Name n) r tt) (mark _)

  open_name-walks : (n : NameRef) (opens : Bool) (r : Reading) → R 0 3 2 0 r (on (open_name n opens) r)
  open_name-walks n true r = w.both (end_macro-walks r) (begin_part-walks (part.Named n) _)
  open_name-walks n false r = w.within 0 3 2 0 (end_macro-walks r) (omega arith)

  name_in-walks : (c : Context) (n : NameRef) (opens : Bool) (p : Place) (r : Reading) → Ok p
      → R 0 3 2 0 r (on (name_in_context c n opens p) r)
  name_in-walks TeX n opens p r ok = open_name-walks n opens r
  name_in-walks Macro n opens p r ok = open_name-walks n opens r
  name_in-walks CText n opens p r ok = w.within 0 3 2 0 (use_name-walks n opens p r ok) (omega arith)
  name_in-walks _ n opens p r ok = w.within 0 3 2 0 (w.nothing r) (omega arith)

  pub occurrence-walks : (is_file : Bool) (text : List ℕ) (how : End) (opens : Bool) (p : Place) (r : Reading) → Ok p
      → R 0 4 2 (length text) r (on (occurrence is_file text how opens p) r)
  occurrence-walks is_file text how opens p r ok =
      w.within 0 4 2 (length text)
      (w.both (w.occurs (name_occurrence is_file text) r) (w.both (report_name_fault-walks how
      p _ ok) (name_in-walks r.state.context _ opens p _ ok))) (omega (arith, occurrence-size is_file text))

  pub literal-walks : (text : List ℕ) (how : End) (p : Place) (r : Reading) → Ok p
      → R 0 1 1 (length text) r (on (emit_literal text how p) r)
  literal-walks text Closed p r ok = w.yields (Literal text) r tt
  literal-walks text Cut p r ok = w.within 0 1 1 (length text)
      (w.both (w.yields (Literal text) r tt) (w.faults StringDidNotEnd p _ ok)) (omega arith)
  literal-walks text _ p r ok = w.within 0 1 1 (length text) (w.nothing r) (omega arith)
