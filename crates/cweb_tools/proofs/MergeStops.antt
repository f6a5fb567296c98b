-- A merge that stops breaks the act of merging, and what is promised of its output after that.
use Rattle.cweb_tools.proofs.Common.{◌∙◌, ap, ◌∷◌, ◌≤◌, Line, length, files_named, begun_with, LINES, BYTES, after_act, ◌≡◌, ℕ, List, [], ◌++◌, refl, subst, Event, SoFar, StopsReading, emitted_lines, written_lines, StopsWriting, WritingStops, WritesPrefix, Stop, ReadFault, LineTooLong, TooMuchText, Memory, WriteFault, LogFault, Logs, stop_line, subject, SinkModel, Devices, merges, Breaks, FailsReading, ending, LogsEnding, appended, changed, failing, with_printed, arith, ◌+◌, add-zero, Option, Some, None, IsSome, write_failures_of, FailedReads, SinkContents}
use Rattle.cweb_lines.specs.Events.{took, emitted, fault, opening}
use Rattle.cweb_tools.specs.Acts.{BreaksReading}
use Rattle.cweb_tools.proofs.Broken.{shelf_after}
use Rattle.cweb_tools.proofs.Limits.{CutAt, cut_at_limit}
use Rattle.cweb_tools.proofs.ReadingStops.{left_by, fails_so, cut_first, read_by}
use Rattle.std.specs.Option.{is_some, option_and}

pub writing_ends : (stop : Stop) (about : List ℕ) {l l' : SinkModel} → WritingStops stop
    → Logs (stop_line stop about) l l' → LogsEnding (ending stop about) l l'
writing_ends LogFault about kind logs = absurd kind
writing_ends stop about kind logs = logs

-- An event that emits nothing comes before those.
cut_more : (event : Event) {lines : List Line} {events : List Event} (cut : CutAt Memory lines events)
    → emitted_lines (event ∷ cut.earlier) ≡ emitted_lines cut.earlier → CutAt Memory lines (event ∷ events)
cut_more event cut none = record {
  earlier = event ∷ cut.earlier;
  later = cut.later;
  whole = ap (λ (es : List Event). event ∷ es) cut.whole;
  emits = none ∙ cut.emits;
  next = tt;
}

-- The events before these lines were emitted.
cut_lines : (events : List Event) (lines rest : List Line) → emitted_lines events ≡ lines ++ rest
    → CutAt Memory lines events
cut_lines events [] rest whole = record { earlier = []; later = events; whole = refl; emits = refl; next = tt }
cut_lines [] (line ∷ lines) rest whole = absurd (cc)
cut_lines (emitted l ∷ events) (line ∷ lines) rest whole =
    let head : l ≡ line = cc in
    let cut = cut_lines events lines rest (cc) in
    record {
      earlier = emitted l ∷ cut.earlier;
      later = cut.later;
      whole = ap (λ (es : List Event). emitted l ∷ es) cut.whole;
      emits = λ i. head i ∷ cut.emits i;
      next = tt;
    }
cut_lines (took l ∷ events) (line ∷ lines) rest whole =
    cut_more (took l) (cut_lines events (line ∷ lines) rest whole) refl
cut_lines (fault f ∷ events) (line ∷ lines) rest whole =
    cut_more (fault f) (cut_lines events (line ∷ lines) rest whole) refl
cut_lines (opening n ∷ events) (line ∷ lines) rest whole =
    cut_more (opening n) (cut_lines events (line ∷ lines) rest whole) refl

-- The output after a stop, if this prefix was printed.
abbrev pub out_after : Stop → List ℕ → SinkModel → SinkModel
out_after WriteFault prefix out = failing (with_printed prefix) out
out_after stop prefix out = changed (with_printed prefix) out

-- The devices after it.
abbrev pub left_after : Stop → List (List ℕ) → List ℕ → Devices → Devices
left_after stop opened prefix now = record now {
  shelf = shelf_after stop (subject opened stop) now.shelf;
  out = out_after stop prefix now.out;
}

left_so : (opened : List (List ℕ)) (now : Devices) {shown lines : List Line} → shown ≡ lines → (stop : Stop)
    → StopsReading stop → left_by stop (subject opened stop)
    (record now { out = changed (with_printed (written_lines shown)) now.out })
    ≡ left_after stop opened (written_lines lines) now
left_so opened now are WriteFault kind = absurd kind
left_so opened now are stop kind = grind arith

-- What was printed before a stop.
pub record PrintsUntil (stop : Stop) (files opened : List (List ℕ)) (events : List Event)
    (old new : SinkModel) : Type 0 where
  pub prefix : List ℕ
  pub is : new.contents ≡ appended prefix old.contents
  pub breaks : (now : Devices) → Breaks (merges files events) (ending stop (subject opened stop)) now
      (left_after stop opened prefix now)

-- A stop within an act of merging. The files that were opened are among those of the act.
module _ (files opened rest : List (List ℕ)) (names : files ≡ opened ++ rest) (events : List Event) where
  merges_broke : (stop : Stop) → StopsReading stop → files_named stop ≤ length opened → (lines : List Line)
      → CutAt stop lines events → (now : Devices)
      → BreaksReading (merges files) files events (ending stop (subject opened stop)) now
      (left_after stop opened (written_lines lines) now)
  merges_broke stop kind known lines cut now = record {
    earlier = cut.earlier;
    later = cut.later;
    whole = cut.whole;
    fails = subst (FailsReading files cut.earlier cut.later (ending stop (subject opened stop))
        (after_act (merges files cut.earlier) now)) (left_so opened now cut.emits stop kind)
        (fails_so stop files opened rest cut.earlier cut.later (after_act (merges files cut.earlier) now) kind names
        known cut.next);
  }

  pub cut_broke : (stop : Stop) → StopsReading stop → files_named stop ≤ length opened → (lines : List Line)
      → CutAt stop lines events → (now : Devices)
      → Breaks (merges files events) (ending stop (subject opened stop)) now
      (left_after stop opened (written_lines lines) now)
  cut_broke WriteFault kind known lines cut now = absurd kind
  cut_broke stop kind known lines cut now = merges_broke stop kind known lines cut now

  pub write_broke : (prefix more : List ℕ) → written_lines (emitted_lines events) ≡ prefix ++ more
      → (now : Devices) → Breaks (merges files events) (ending WriteFault (subject opened WriteFault)) now
      (left_after WriteFault opened prefix now)
  write_broke prefix more whole now = grind arith

  -- An observable shelf: all lines before the stop were printed.
  pub prints_so : (stop : Stop) {first : List (List ℕ)} {old : SoFar} (new : SoFar) (Wrote : List ℕ → Type 0)
      {out out' : SinkModel} → old ≡ begun_with first → new.count.lines ≤ LINES → new.count.bytes ≤ BYTES
      → WritingStops stop → files_named stop ≤ length opened → StopsWriting stop old new events Wrote
      → ((text : List ℕ) → Wrote text → out'.contents ≡ appended text out.contents)
      → WritesPrefix (written_lines (emitted_lines events)) out out'
      → PrintsUntil stop files opened events out out'
  prints_so (ReadFault file) new Wrote began few small kind known why wrote printed = record {
    prefix = written_lines why.lines;
    is = wrote _ why.wrote;
    breaks = cut_broke (ReadFault file) tt known why.lines (record {
      earlier = why.reads.yields.events;
      later = why.reads.later;
      whole = why.reads.yields.whole;
      emits = why.reads.yields.emitted;
      next = tt;
    });
  }
  prints_so (LineTooLong file) new Wrote began few small kind known why wrote printed = record {
    prefix = written_lines why.lines;
    is = wrote _ why.wrote;
    breaks = cut_broke (LineTooLong file) tt known why.lines (cut_at_limit began few small why.stops);
  }
  prints_so TooMuchText new Wrote began few small kind known why wrote printed = record {
    prefix = written_lines why.lines;
    is = wrote _ why.wrote;
    breaks = cut_broke TooMuchText tt known why.lines (cut_at_limit began few small why.stops);
  }
  prints_so Memory new Wrote began few small kind known why wrote printed = record {
    prefix = written_lines why.lines;
    is = wrote _ why.wrote;
    breaks = cut_broke Memory tt known why.lines (cut_lines events why.lines why.rest why.whole);
  }
  prints_so WriteFault new Wrote began few small kind known why wrote printed = record {
    prefix = printed.prefix;
    is = printed.is;
    breaks = write_broke printed.prefix printed.rest printed.whole;
  }
  prints_so stop new Wrote began few small kind known why wrote printed = absurd kind

-- An unobservable shelf: the stop may have come first.
pub prints_none : (stop : Stop) (opened rest : List (List ℕ)) {out out' : SinkModel} → WritingStops stop
    → files_named stop ≤ length opened → out'.contents ≡ appended [] out.contents
    → PrintsUntil stop (opened ++ rest) opened (read_by stop) out out'
prints_none WriteFault opened rest kind known none = grind arith
prints_none stop opened rest kind known none = record {
  prefix = [];
  is = none;
  breaks = cut_broke _ opened rest refl _ stop kind known [] (cut_first stop);
}

abbrev pub out_of : FailedReads → SinkModel → SinkModel
out_of shelf out = record out { contents = option_and shelf.blamed out.contents }

-- What is known stays known.
pub stays_known : (stop : Stop) (about : List ℕ) (shelf : FailedReads)
    → is_some (shelf_after stop about shelf).blamed ≡ is_some shelf.blamed
stays_known (ReadFault file) about shelf = grind arith
stays_known stop about shelf = refl

-- The output has this text more, if the files are known.
pub more_known : {A : Type 0} (old new : Option A) (now now' : Option SinkContents) (text : List ℕ)
    → is_some new ≡ is_some old → (IsSome old → now' ≡ appended text now)
    → option_and new now' ≡ appended text (option_and old now)
more_known (Some x) (Some y) now now' text same is = is refl
more_known None None now now' text same is = refl
more_known (Some x) None now now' text same is = absurd (cc)
more_known None (Some y) now now' text same is = absurd (cc)

-- The output after a stop, from its failure count and its contents.
pub out_is : (stop : Stop) (text : List ℕ) (old new : SinkModel) → new.failed ≡ old.failed + write_failures_of stop
    → new.contents ≡ appended text old.contents → new ≡ out_after stop text old
out_is WriteFault text old new more is = λ i. record { failed = more i; contents = is i }
out_is stop text old new same is = λ i. record { failed = (same ∙ add-zero old.failed) i; contents = is i }
