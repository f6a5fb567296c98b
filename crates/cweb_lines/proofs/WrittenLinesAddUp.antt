-- The written lines of consecutive calls are concatenated.
use Rattle.cweb_lines.proofs.Common.{rules, ◌≡◌, ◌<◌, ◌+◌, ℕ, List, [], ◌∷◌, ◌++◌, length, refl, ap, length-append, append-nil, append_assoc, FailsWithin, SinkModel, Writes, written, Line, Event, SoFar, EmitsLines, Stopped, StopsAfterLines, ReportsPrefix, emitted_lines, written_lines, all_but_last, WritesPrefix, WritesAll, WritesSome, WritesUpTo, HasWritten, StopsWriting, Stop, ReadFault, LineTooLong, TooMuchText, Memory, arith, fails_then, written_none}
use Rattle.cweb_lines.proofs.LinesInBuffer.{all_but_last-append}
use Rattle.cweb_lines.proofs.EmittedLinesAddUp.{emitted-append, reported-append, openings-append, yields_both, after_both, reads_both}

pub emitted_prefix : (lines : List Line) (old new : SoFar) (all later : List Event)
    → EmitsLines lines old new all later →
    emitted_lines all ≡ lines ++ emitted_lines later
emitted_prefix lines old new all later yields = simp (yields.whole, emitted-append, yields.emitted)

pub yields_all : (lines : List Line) (old new : SoFar) (all later : List Event) → EmitsLines lines old new all later →
    later ≡ [] → EmitsLines (emitted_lines all) old new all []
yields_all lines old new all later yields none = search rules

pub text_of-append : (a b : List Line) → written_lines (a ++ b) ≡ written_lines a ++ written_lines b
text_of-append [] b = refl
text_of-append (line ∷ a) b = simp (text_of-append a b, append_assoc)

pub written-all_but_last : (a b : List Line) → 0 < length b → length (written_lines (all_but_last (a ++ b)))
    ≡ length (written_lines a) + length (written_lines (all_but_last b))
written-all_but_last a b some = grind (arith, all_but_last-append, text_of-append, length-append)

-- A prefix of the whole output: whole lines, then a prefix of the buffered lines.
pub prefix_of_all : (all done buffered now : List Line) (old mid new : SinkModel) (buffer : List ℕ) → all ≡ done ++
    (buffered ++ now) → mid ≡ written (written_lines done) old → buffer ≡ written_lines buffered
    → FailsWithin buffer mid new → WritesPrefix (written_lines all) old new
prefix_of_all all done buffered now old mid new buffer whole wrote is fails =
    grind (arith, fails_then, text_of-append, append_assoc)

pub nothing_yet : (sink : SinkModel) (so : SoFar) (all : List Event) → HasWritten so so all all (Writes sink sink)
nothing_yet sink so all = search (rules, written_none)

module _ (first mid : SinkModel) (old so : SoFar) (all now : List Event)
    (g : HasWritten old so all now (Writes first mid)) where
  pub written_prefix : WritesPrefix (written_lines (emitted_lines all)) first mid
  written_prefix = record {
    prefix = written_lines g.lines;
    rest = written_lines (emitted_lines now);
    whole = simp (emitted_prefix g.lines old so all now g.yields, text_of-append);
    is = ap (λ (sink : SinkModel). sink.contents) g.wrote;
  }

  pub written_whole : (so' : SoFar) (later : List Event) → EmitsLines [] so so' now later → later ≡ [] →
      WritesAll old so' all (Writes first mid)
  written_whole so' later next none =
      let yields = rw append-nil at (yields_both g.lines [] old so so' all now later g.yields next) in
      record {
        yields = yields_all g.lines old so' all later yields none;
        wrote = simp (emitted_prefix g.lines old so' all later yields, none, append-nil) g.wrote;
      }

  pub written_some : WritesSome all (Writes first mid)
  written_some = search (rules, emitted_prefix)

  up_to : (stop : Stop) (new : SoFar) → StopsAfterLines [] stop so new now
      → WritesUpTo stop old new all (Writes first mid)
  up_to stop new stops = record {
    lines = g.lines;
    stops = rw append-nil at (after_both g.lines [] stop old so new all now g.yields stops);
    wrote = g.wrote;
  }

  pub written_by : (stop : Stop) (new : SoFar) → Stopped stop so new now → StopsWriting stop old new all (Writes
      first mid)
  written_by (ReadFault file) new reads = record {
    lines = g.lines;
    reads = rw append-nil at (reads_both g.lines [] old so new all now g.yields reads);
    wrote = g.wrote;
  }
  written_by (LineTooLong file) new stops = up_to (LineTooLong file) new stops
  written_by TooMuchText new stops = up_to TooMuchText new stops
  written_by Memory new stopped = written_some
  written_by stop new stopped = absurd stopped

pub tells_some : (lines : List Line) (old new : SoFar) (all later : List Event) → EmitsLines lines old new all later →
    ReportsPrefix old new all
tells_some lines old new all later yields = search rules

pub tells_more : (lines : List Line) (old mid new : SoFar) (all now : List Event) → EmitsLines lines old mid all now →
    ReportsPrefix mid new now → ReportsPrefix old new all
tells_more lines old mid new all now yields prefix = record {
  events = yields.events ++ prefix.events;
  later = prefix.later;
  whole = simp (yields.whole, prefix.whole, append_assoc);
  faults = simp (prefix.faults, yields.faults, reported-append, append_assoc);
  names = simp (prefix.names, yields.names, openings-append, append_assoc);
}

pub tells_same : (old mid new : SoFar) (all : List Event) → new ≡ mid → ReportsPrefix old mid all
    → ReportsPrefix old new all
tells_same old mid new all is prefix = rw is prefix
