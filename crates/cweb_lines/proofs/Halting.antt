-- Every merge ends: after each step fewer steps are enough.
use Rattle.std.proofs.Common.{◌≡◌, ◌≤◌, ◌<◌, ◌+◌, ◌-◌, ℕ, zero, suc, Bool, true, false, List, [], ◌∷◌, ◌++◌, Option, Some, None, refl, ap, subst, arith, ◌&&◌, IfSome}
use Rattle.std.specs.Prelude.{nat_lt}
use Rattle.std.specs.Str.{bytes_eq}
use Rattle.std.proofs.lemmas.Bool.Decides.{nat_tests}
use Rattle.cweb_files.specs.declared.place.Place.{Place}
use Rattle.cweb_lines.specs.Lines.{CutLine, SourceLine, numbered_lines, cut_lines, trimmed, RawLine, Thing, seek, raw, reported, passed, raws}
use Rattle.cweb_lines.specs.Include.{World, Found, include_name, is_include_line, found_at}
use Rattle.cweb_lines.specs.Change.{change_code, WaitingEntry, Sought, sought, outside, after_x, OldSide, old_at, dropping, old_lines}
use Rattle.cweb_lines.specs.declared.limits.TheConstants.{OPEN_FILES}
use Rattle.cweb_lines.specs.declared.change.code.Code.{Code}
use Rattle.cweb_lines.specs.declared.change.code.Code.TheVariants.{OldSide as old_side, NewSide as new_side, EndSide as end_side}
use Rattle.cweb_lines.specs.Events.{Event}
use Rattle.cweb_lines.specs.Merge.{MergeStateModel, new_at, new_lines, after_old, Next, obeyed, open_include, included, plain, at_entry, at_raw, past, step, onto, step_then_run, run_steps}
use Rattle.cweb_lines.specs.surface.MergeProgress.{steps_of_lines, steps_of_file, steps_of_line, steps_of_things, steps_of_change, steps_of_entry, enough_steps}

line_some : (depth : ℕ) (world : World) (bytes : List ℕ) → 1 ≤ steps_of_line depth world bytes
line_some zero world bytes = omega arith
line_some (suc depth) world bytes = omega arith

lines_grow : (f g : List ℕ → ℕ) (lines : List CutLine) → ((line : List ℕ) → f line ≤ g line)
    → steps_of_lines f lines ≤ steps_of_lines g lines
lines_grow f g [] more = omega arith
lines_grow f g (line ∷ lines) more = omega (arith, more (trimmed line.bytes), lines_grow f g lines more)

file_grows : (f g : List ℕ → ℕ) (found : Option Found) → ((line : List ℕ) → f line ≤ g line)
    → steps_of_file f found ≤ steps_of_file g found
file_grows f g None more = omega arith
file_grows f g (Some found) more = lines_grow f g (cut_lines found.1) more

-- A line takes more steps the deeper files may nest.
line_grows : (m n : ℕ) (world : World) (bytes : List ℕ) → m ≤ n
    → steps_of_line m world bytes ≤ steps_of_line n world bytes
line_grows zero n world bytes h = line_some n world bytes
line_grows (suc m) zero world bytes h = absurd (omega arith)
line_grows (suc m) (suc n) world bytes h = omega (
  arith,
  file_grows (λ line. steps_of_line m world line) (λ line. steps_of_line n world line)
      (found_at world (include_name bytes)) (λ line. line_grows m n world line (omega arith)),
)

raws_are : (world : World) (depth : ℕ) (may_match : Bool) (file number : ℕ) (lines : List CutLine) (more : List Thing)
    → steps_of_things world (raws depth may_match (numbered_lines file number lines) ++ more)
    ≡ steps_of_lines (λ line. steps_of_line (OPEN_FILES - depth) world line) lines + steps_of_things world more
raws_are world depth may_match file number [] more = omega arith
raws_are world depth may_match file number (line ∷ lines) more =
    omega (arith, raws_are world depth may_match file (number + 1) lines more)

things_join : (world : World) (a b : List Thing)
    → steps_of_things world (a ++ b) ≡ steps_of_things world a + steps_of_things world b
things_join world [] b = omega arith
things_join world (raw r ∷ a) b = omega (arith, things_join world a b)
things_join world (seek ∷ a) b = omega (arith, things_join world a b)
things_join world (reported f ∷ a) b = omega (arith, things_join world a b)
things_join world (passed line ∷ a) b = omega (arith, things_join world a b)

-- What a search leaves of the change file.
abbrev sought_steps : World → Sought → ℕ
sought_steps world found = steps_of_entry found.entry + steps_of_change world found.rest

outside_less : (world : World) (code : Option Code) (place : Place) (later : Option Place → Sought) (n : ℕ)
    → ((p : Option Place) → sought_steps world (later p) ≤ n) → sought_steps world (outside code place later) ≤ n
outside_less world (Some old_side) place later n less = less (Some place)
outside_less world None place later n less = less None
outside_less world (Some _) place later n less = less None

after_x_less : (world : World) (bytes : List ℕ) (code : Option Code) (begin : Place) (line : SourceLine)
    (lines : List SourceLine) (later : Option Place → Sought)
    → ((p : Option Place) → sought_steps world (later p) ≤ steps_of_change world lines)
    → sought_steps world (after_x bytes code begin line lines later) ≤ 2 + steps_of_change world lines
after_x_less world [] code begin line lines later less = omega (arith, less (Some begin))
after_x_less world (b ∷ bs) None begin line lines later less = omega arith
after_x_less world (b ∷ bs) (Some code) begin line lines later less = grind (arith, outside_less)

sought_less : (world : World) (lines : List SourceLine) (begin : Option Place)
    → sought_steps world (sought lines begin) ≤ steps_of_change world lines
sought_less world [] None = omega arith
sought_less world [] (Some begin) = omega arith
sought_less world (line ∷ lines) None = grind (arith, outside_less, sought_less world lines)
sought_less world (line ∷ lines) (Some begin) = grind (arith, after_x_less, sought_less world lines)

-- What an old side leaves of the change file and of the things to come.
record Drops (world : World) (old : OldSide) (lines : ℕ) (from : List Thing) : Type 0 where
  rest : steps_of_change world old.rest ≤ lines
  things : steps_of_things world old.things ≤ steps_of_things world from

dropping_less : (world : World) (old : List ℕ) (things : List Thing) (later : List Thing → OldSide) (n : ℕ)
    → ((rest : List Thing) → Drops world (later rest) n rest) → Drops world (dropping old things later) n things
dropping_less world old [] later n less = grind (arith, less [])
dropping_less world old (raw r ∷ things) later n less = grind (arith, less things)
dropping_less world old (seek ∷ things) later n less = grind (arith, dropping_less world old things later n less)
dropping_less world old (reported f ∷ things) later n less = grind (arith, dropping_less world old things later n less)
dropping_less world old (passed line ∷ things) later n less = grind (arith, dropping_less world old things later n less)

old_less : (world : World) (lines : List SourceLine) (things : List Thing)
    → Drops world (old_lines lines things) (steps_of_change world lines) things
old_less world [] things = record { rest = omega arith; things = omega arith }
old_less world (line ∷ lines) things = grind (arith, by (change_code line.line.bytes) (old_less world lines))
  where
    by : (code : Option Code)
        → ((rest : List Thing) → Drops world (old_lines lines rest) (steps_of_change world lines) rest)
        → Drops world (old_at code line.line lines things (λ rest. old_lines lines rest))
        (steps_of_change world lines) things
    by (Some new_side) less = grind arith
    by None less =
        dropping_less world line.line.bytes things (λ rest. old_lines lines rest) (steps_of_change world lines) less
    by (Some _) less = grind (arith, less things)

new_less : (world : World) (depth : ℕ) (begin : Place) (lines : List SourceLine) →
    let new = new_lines depth begin lines in
    steps_of_things world new.things + steps_of_change world new.rest ≤ 1 + steps_of_change world lines
new_less world depth begin [] = omega arith
new_less world depth begin (line ∷ lines) = by (change_code line.line.bytes) (new_less world depth begin lines)
  where
    by : (code : Option Code) →
        let later = new_lines depth begin lines in
        let new = new_at code depth line lines later in
        steps_of_things world later.things + steps_of_change world later.rest ≤ 1 + steps_of_change world lines
        → steps_of_things world new.things + steps_of_change world new.rest ≤ 1 + steps_of_change world (line ∷ lines)
    by (Some end_side) less = omega arith
    by None less =
        omega (arith, less, line_grows (OPEN_FILES - depth) OPEN_FILES world line.line.bytes (omega arith))
    by (Some _) less = omega (arith, less)

-- A raw line leaves fewer steps than these.
module _ (world : World) (r : RawLine) (things : List Thing) (s : MergeStateModel)
  where
    abbrev Fewer : Next → Type 0
    Fewer next = enough_steps world next.1
        < steps_of_line (OPEN_FILES - r.depth) world r.source.line.bytes + enough_steps world (past s things)

    past_fewer : enough_steps world (past s things)
        < steps_of_line (OPEN_FILES - r.depth) world r.source.line.bytes + enough_steps world (past s things)
    past_fewer = omega (arith, line_some (OPEN_FILES - r.depth) world r.source.line.bytes)

    deeper : r.depth < OPEN_FILES → steps_of_line (OPEN_FILES - r.depth) world r.source.line.bytes
        ≡ 1 + steps_of_file (λ line. steps_of_line (OPEN_FILES - (r.depth + 1)) world line)
        (found_at world (include_name r.source.line.bytes))
    deeper shallow = ap (λ n. steps_of_line n world r.source.line.bytes)
        (let e : OPEN_FILES - r.depth ≡ suc (OPEN_FILES - (r.depth + 1)) = omega arith in e)

    obeyed_fewer : (found : Option Found) → found_at world (include_name r.source.line.bytes) ≡ found
        → r.depth < OPEN_FILES → Fewer (obeyed found s r things)
    obeyed_fewer None is shallow = past_fewer
    obeyed_fewer (Some found) is shallow = grind (arith, deeper, raws_are)

    opened_fewer : (b : Bool) → b ≡ nat_lt r.depth OPEN_FILES
        → Fewer (open_include b world (include_name r.source.line.bytes) s r things)
    opened_fewer false test = past_fewer
    opened_fewer true test =
        obeyed_fewer (found_at world (include_name r.source.line.bytes)) refl (grind (arith, nat_tests))

    included_fewer : (name : List ℕ) → include_name r.source.line.bytes ≡ name
        → Fewer (included name world s r things)
    included_fewer [] is = past_fewer
    included_fewer (b ∷ bs) is = subst
        (λ name. Fewer (open_include (nat_lt r.depth OPEN_FILES) world name s r things)) is
        (opened_fewer (nat_lt r.depth OPEN_FILES) refl)

    plain_fewer : (b : Bool) → Fewer (plain b world s r things)
    plain_fewer true = included_fewer (include_name r.source.line.bytes) refl
    plain_fewer false = past_fewer

    after_old_fewer : (entry : WaitingEntry) (ended : Bool) (old : OldSide) → s.pending ≡ Some entry
        → Drops world old (steps_of_change world s.change) things
        → enough_steps world (after_old ended s.files r.depth entry.begin old)
        < steps_of_line (OPEN_FILES - r.depth) world r.source.line.bytes + enough_steps world (past s things)
    after_old_fewer entry true old is drops = grind (arith, line_some)
    after_old_fewer entry false old is drops = grind (arith, new_less, things_join, line_some)

    at_raw_fewer : (pending : Option WaitingEntry) → s.pending ≡ pending → Fewer (at_raw pending world s r things)
    at_raw_fewer None is = plain_fewer (is_include_line r.source.line.bytes)
    at_raw_fewer (Some entry) is = by (r.may_match && bytes_eq r.source.line.bytes entry.first)
      where
        by : (b : Bool) → Fewer (at_entry b entry world s r things)
        by false = plain_fewer (is_include_line r.source.line.bytes)
        by true = let old = old_lines s.change things in
            after_old_fewer entry old.ended old is (old_less world s.change things)

-- A step leaves fewer steps.
fewer : (world : World) (s : MergeStateModel) (things : List Thing) (pending : Option WaitingEntry)
    → s.things ≡ things → s.pending ≡ pending
    → IfSome (step world (past (record s { pending = pending }) things)) (λ next. enough_steps world next.1
    < 1 + steps_of_things world things + steps_of_entry pending + steps_of_change world s.change)
fewer world s [] None is waits = tt
fewer world s [] (Some entry) is waits = omega arith
fewer world s (seek ∷ things) pending is waits = omega (arith, sought_less world s.change None)
fewer world s (raw r ∷ things) pending is waits =
    let h = at_raw_fewer world r things (past (record s { pending = pending }) (raw r ∷ things)) pending refl in
    omega (arith, h)
fewer world s (reported f ∷ things) pending is waits = omega arith
fewer world s (passed line ∷ things) pending is waits = omega arith

step_fewer : (world : World) (s : MergeStateModel)
    → IfSome (step world s) (λ next. enough_steps world next.1 < enough_steps world s)
step_fewer world s = fewer world s s.things s.pending refl refl

-- So many steps are enough.
pub comes : (n : ℕ) (world : World) (s : MergeStateModel) → enough_steps world s ≤ n
    → (events : List Event) × (run_steps n world s ≡ Some events)
comes zero world s enough = absurd (omega arith)
comes (suc n) world s enough = by (step world s) (step_fewer world s) (comes n world)
  where
    by : (o : Option Next) → IfSome o (λ next. enough_steps world next.1 < enough_steps world s)
        → ((s' : MergeStateModel) → enough_steps world s' ≤ n
        → (events : List Event) × (run_steps n world s' ≡ Some events))
        → (events : List Event) × (step_then_run o (λ s'. run_steps n world s') ≡ Some events)
    by None less later = ([], refl)
    by (Some next) less later =
        let rest = later next.1 (omega (arith, enough, less)) in (next.0 ++ rest.0, ap (onto next.0) rest.1)
