-- Change files: entries of old and new lines between the code lines @x, @y and @z.
use Rattle.std.specs.Prelude.{ℕ, ◌+◌, Bool, true, false, ◌||◌, ◌==◌, List, [], ◌∷◌, Option, None, Some, if◌then◌else◌}
use Rattle.std.specs.Str.{bytes_eq}
use Rattle.cweb_lines.specs.Lines.{Place, Line, SourceLine, Thing, raw}
use Rattle.cweb_lines.specs.Events.{Event, took, fault, SourceFault}
use Rattle.cweb_lines.specs.declared.change.code.Code.{Code}
use Rattle.cweb_lines.specs.declared.change.code.Code.TheVariants.{OldSide as old_side, NewSide as new_side}
use Rattle.cweb_lines.specs.declared.change.code.Code.TheVariants.{EndSide as end_side}
use Rattle.cweb_lines.specs.declared.fault.SourceKind.{SourceKind}
use Rattle.cweb_lines.specs.declared.fault.SourceKind.TheVariants.{MissingX, NoOldLines, WantsY}

-- `x`, `y` or `z` in either case.
abbrev pub letter_code : ℕ → Option Code
letter_code b =
    if b == 120 || b == 88 then Some old_side
    else (if b == 121 || b == 89 then Some new_side else (if b == 122 || b == 90 then Some end_side else None))

-- A code line begins with `@` and one of these letters.
abbrev pub change_code : List ℕ → Option Code
change_code [] = None
change_code (a ∷ []) = None
change_code (a ∷ b ∷ rest) = if a == 64 then letter_code b else None

-- A fault at a place, without a count.
abbrev pub at_place : SourceKind → Place → SourceFault
at_place kind place = record { kind = kind; place = place; count = 0 }

-- An entry that waits for its first old line, with the place of its @x.
pub record WaitingEntry : Type 0 where
  pub begin : Place
  pub first : List ℕ

-- The search for an entry: its events, the entry, and the lines after it.
pub record Sought : Type 0 where
  pub events : List Event
  pub entry : Option WaitingEntry
  pub rest : List SourceLine

-- Prepends an event.
abbrev pub sought_after : Event → Sought → Sought
sought_after event found = record found { events = event ∷ found.events }

-- A line with this code outside an entry. `later` is the rest of the search: a function, so that one case is computed.
abbrev pub outside : Option Code → Place → (Option Place → Sought) → Sought
outside None place later = later None
outside (Some old_side) place later = later (Some place)
outside (Some code) place later = sought_after (fault (at_place MissingX place)) (later None)

-- A line after @x: empty lines are skipped, a code line restarts the search, and any other line is the first old line.
abbrev pub after_x : List ℕ → Option Code → Place → SourceLine → List SourceLine → (Option Place → Sought) → Sought
after_x [] code begin line lines later = later (Some begin)
after_x (b ∷ bs) None begin line lines later =
    record { events = []; entry = Some (record { begin = begin; first = b ∷ bs }); rest = lines }
after_x (b ∷ bs) (Some code) begin line lines later =
    sought_after (fault (at_place NoOldLines begin)) (outside (Some code) line.line.place later)

-- The search for the next entry. `Some begin` is the place of an @x that has no old line yet.
abbrev pub sought : List SourceLine → Option Place → Sought
sought [] None = record { events = []; entry = None; rest = [] }
sought [] (Some begin) = record { events = fault (at_place NoOldLines begin) ∷ []; entry = None; rest = [] }
sought (line ∷ lines) None = sought_after (took line)
    (outside (change_code line.line.bytes) line.line.place (λ begin. sought lines begin))
sought (line ∷ lines) (Some begin) = sought_after (took line)
    (after_x line.line.bytes (change_code line.line.bytes) begin line lines (λ next. sought lines next))

-- The further old lines of an entry, up to its @y, and the raw lines that they drop.
pub record OldSide : Type 0 where
  pub events : List Event
  -- the number of old lines that differ from their raw lines
  pub unequal : ℕ
  -- the raw lines ended before the old lines
  pub ran_out : Bool
  -- the change file ended before @y
  pub ended : Bool
  pub rest : List SourceLine
  pub things : List Thing

-- Prepends an event.
abbrev pub old_after : Event → OldSide → OldSide
old_after event side = record side { events = event ∷ side.events }

-- A raw line was dropped, which equals its old line or not.
abbrev pub one_more : Bool → SourceLine → OldSide → OldSide
one_more equal line side = record side {
  events = took line ∷ side.events;
  unequal = if equal then side.unequal else side.unequal + 1;
}

-- An old line drops the next raw line, whether they are equal or not. Other things are skipped.
abbrev pub dropping : List ℕ → List Thing → (List Thing → OldSide) → OldSide
dropping old [] later = record (later []) { ran_out = true }
dropping old (raw r ∷ things) later = one_more (bytes_eq r.source.line.bytes old) r.source (later things)
dropping old (thing ∷ things) later = dropping old things later

-- A line of the old side by its code: @y ends the side, and another code is a fault and skipped.
abbrev pub old_at : Option Code → Line → List SourceLine → List Thing → (List Thing → OldSide) → OldSide
old_at None line lines things later = dropping line.bytes things later
old_at (Some new_side) line lines things later =
    record { events = []; unequal = 0; ran_out = false; ended = false; rest = lines; things = things }
old_at (Some code) line lines things later = old_after (fault (at_place WantsY line.place)) (later things)

-- The old side at the start of these lines and things.
abbrev pub old_lines : List SourceLine → List Thing → OldSide
old_lines [] things =
    record { events = []; unequal = 0; ran_out = false; ended = true; rest = []; things = things }
old_lines (line ∷ lines) things = old_after (took line)
    (old_at (change_code line.line.bytes) line.line lines things (λ rest. old_lines lines rest))
