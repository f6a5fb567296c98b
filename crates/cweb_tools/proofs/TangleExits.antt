-- The exits of `ctangle` before and after its merge began are ends of a run.
use Rattle.cweb_tools.proofs.Common.{◌≡◌, inl, inr, ℕ, List, [], ◌∷◌, refl, ap, IsSome, Option, Some, None, contents_found, World, Found, Event, started, StartStops, emitted_lines, reported_faults, merge, StopsAtStart, Stop, WebNotOpened, ChangeNotOpened, Memory, scanned, LogItem, line, stopped, start_subject, stop_line, OptionsModel, Logs, SinkModel, FailedReads, Act, ending, opens, says, change_name, found_course, at, Does, RunEnds, TangleCourse, change_not_there, not_there, CanCome, LaterActs, opening_acts, EndsAs, tangled, ◌≤◌, ◌++◌, length, ◌∙◌, names_found, SoFar, StopsReading, files_named, openings, taken_lines, IsWithinLimits, BeginsMerge, SourceFault, LINES, BYTES, Scanned, ScanEndsEarly, Scans, subject, Devices, acts_status, Breaks, reads, Course, merging, tangling, web_of, arith}
use Rattle.cweb_tools.proofs.TanglePromisesProved.{no_change, no_web}
use Rattle.cweb_tools.proofs.Doing.{ends_halted, ends_on, ends_reported}
use Rattle.cweb_tools.proofs.Logging.{logs_write, said}
use Rattle.cweb_tools.proofs.Exits.{either, begins_course, faults_reported, limits_kept, names_reported, opened_by}
use Rattle.cweb_tools.proofs.Broken.{shelf_after}
use Rattle.cweb_tools.proofs.ReadingStops.{left_by, reads_broke, read_by, silent_broke, reading_ends, nothing_passes}

-- The line of what ended the run was logged, or the log failed within it.
pub reported_last : (item : LogItem) (shelf : FailedReads) (out : SinkModel) {l l' : SinkModel} → Logs (line item) l l'
    → RunEnds (says item ∷ []) 1 (at shelf out l) (at shelf out l') 1
reported_last item shelf out logs =
    let writes = logs_write logs in
    ends_reported writes.0 (said writes.0 item writes.1) refl refl shelf out

-- The course of the shelf's files is possible for the words.
pub can_come : (args : OptionsModel) (world : World) (found : Option Found) (changes : Option (Option Found))
    → CanCome (Some args) (tangled args.names.main (found_course world args.names.merge found changes))
can_come args world None changes = refl
can_come args world (Some web) None = refl
can_come args world (Some web) (Some change) =
    let events : List Event = merge world (started web.1 (contents_found change)) in
    record { faults = reported_faults events; made = scanned (emitted_lines events); is = refl }

-- The shelf was searched, and nothing else was done.
module _ (shelf shelf' : FailedReads) (same : shelf' ≡ shelf) (out : SinkModel) (l l' : SinkModel) where
  looks : Does (opens ∷ []) None (at shelf out l) (at shelf' out l)
  looks = record { runs = inl (tt, ap (λ (shelf : FailedReads). at shelf out l) same) }

  -- An allocation failed there.
  not_opened : (acts : List Act) → Does (opens ∷ acts) (Some (ending Memory [])) (at shelf out l) (at shelf' out l)
  not_opened acts = record { runs = inr (ap (λ (shelf : FailedReads). at shelf out l) same) }

  module _ (later : LaterActs) (args : OptionsModel) (world : World) (status : ℕ) (answered : status ≡ 1) where
    abbrev pub course : Option Found → Option (Option Found) → TangleCourse
    course found changes = tangled args.names.main (found_course world args.names.merge found changes)

    ends_said : (item : LogItem) → Logs (line item) l l'
        → RunEnds (opens ∷ says item ∷ []) 1 (at shelf out l) (at shelf' out l') status
    ends_said item logs = ends_on looks (rw answered (reported_last item shelf' out logs))

    memory_out : (found : Option Found) (changes : Option (Option Found)) → Does
        (opening_acts later (course found changes)) (Some (ending Memory [])) (at shelf out l) (at shelf' out l)
    memory_out None changes = not_opened _
    memory_out (Some web) None = not_opened _
    memory_out (Some web) (Some change) = not_opened _

    -- A merge could not begin.
    pub start_ends : (found : Option Found) (changes : Option (Option Found)) (stop : Stop)
        → StartStops stop → (IsSome shelf.blamed → StopsAtStart stop found changes)
        → Logs (stop_line stop (start_subject args.names.merge.web (change_name args.names.merge.change) stop))
        l l'
        → EndsAs later args (course found changes) (at shelf out l) (at shelf' out l') status
    start_ends found changes WebNotOpened comes why logs = record {
      course = not_there args.names.merge.web;
      can = refl;
      is = λ tell. ap (tangled args.names.main) (no_web world args.names.merge found changes (why tell));
      ends = ends_said (stopped WebNotOpened args.names.merge.web) logs;
    }
    start_ends found changes ChangeNotOpened comes why logs = record {
      course = change_not_there (change_name args.names.merge.change);
      can = refl;
      is = λ tell. ap (tangled args.names.main)
          (no_change world args.names.merge found changes (why tell).0 (why tell).1);
      ends = ends_said (stopped ChangeNotOpened (change_name args.names.merge.change)) logs;
    }
    start_ends found changes Memory comes why logs = record {
      course = course found changes;
      can = can_come args world found changes;
      is = λ tell. refl;
      ends = ends_halted (memory_out found changes) (record { others = refl; log = logs }) answered;
    }
    start_ends found changes stop comes why logs = absurd comes

-- A run that begins a merge with these events.
module _ (later : LaterActs) (args : OptionsModel) (world : World) (found : Option Found)
    (changes : Option (Option Found))
    (shelf shelf' : FailedReads) (out : SinkModel) (l : SinkModel) (status : ℕ) (old new : SoFar) (all : List Event)
    (begins : IsSome shelf.blamed → BeginsMerge world found changes old all) where
  abbrev merged : Course
  merged = found_course world args.names.merge found changes

  begun : (observed : IsSome shelf.blamed) → merged ≡ merging
      ((begins observed).name ∷ names_found (begins observed).change) all
  begun observed = begins_course world args.names.merge found changes (begins observed)

  -- Files were opened, and reading them failed. The files that were opened until then have names.
  breaks_so : (stop : Stop) (opened files : List (List ℕ)) (events : List Event) (acts : List Act)
      → shelf' ≡ shelf_after stop (subject opened stop) shelf
      → Breaks (reads files events) (ending stop (subject opened stop)) (at shelf out l)
      (left_by stop (subject opened stop) (at shelf out l)) → Does (opens ∷ reads files events ∷ acts)
      (Some (ending stop (subject opened stop))) (at shelf out l) (at shelf' out l)
  breaks_so stop opened files events acts is breaks = rw is (record { runs = inl (tt, inr breaks) })

  halts : (stop : Stop) (about : List ℕ) (l' : SinkModel) (course : TangleCourse)
      → StopsReading stop → Logs (stop_line stop about) l l' → status ≡ 1
      → Does (opening_acts later course) (Some (ending stop about)) (at shelf out l) (at shelf' out l)
      → RunEnds (opening_acts later course) (acts_status (opening_acts later course)) (at shelf out l)
      (at shelf' out l') status
  halts stop about l' course kind logs answered does =
      ends_halted does (record { log = reading_ends stop about kind logs; others = refl }) answered

  -- Reading ended early.
  pub read_stops : (stop : Stop) (opened : List (List ℕ)) (l' : SinkModel) → opened ≡ new.names → StopsReading stop
      → (IsSome shelf.blamed → ScanEndsEarly stop old new all) → shelf' ≡ shelf_after stop (subject opened stop) shelf
      → files_named stop ≤ length new.names → new.count.lines ≤ LINES → new.count.bytes ≤ BYTES
      → Logs (stop_line stop (subject opened stop)) l l' → status ≡ 1
      → EndsAs later args (tangled args.names.main merged) (at shelf out l) (at shelf' out l') status
  read_stops stop opened l' opened_are kind why is named few small logs answered =
      let known : files_named stop ≤ length opened = rw opened_are named in
      elim (either shelf.blamed) [
        | inl observed ↦
            let prefix = opened_by _ (begins observed).so_far_is (why observed).reported opened opened_are in record {
              course = tangled args.names.main merged;
              can = can_come args world found changes;
              is = λ tell. refl;
              ends = halts stop (subject opened stop) l' (tangled args.names.main merged) kind logs answered
                  (rw (begun observed) (breaks_so stop opened _ all _ is (reads_broke stop _ opened prefix.0 old new all
                  (at shelf out l) (begins observed).so_far_is few small kind (why observed).why prefix.1 known)));
            }
        | inr silent ↦
            let web = web_of opened [] (scanned []) args.names.main in record {
              course = tangling opened (read_by stop) web;
              can = record { faults = []; made = scanned []; is = refl };
              is = λ tell. absurd (silent tell);
              ends = halts stop (subject opened stop) l' (tangling opened (read_by stop) web) kind logs answered
                  (breaks_so stop opened opened (read_by stop) _ is
                  (silent_broke stop opened (at shelf out l) kind known));
            }
      ]

  -- Everything was read.
  reads_so : (files : List (List ℕ)) (events : List Event) → IsWithinLimits (taken_lines events) → shelf' ≡ shelf
      → Does (opens ∷ reads files events ∷ []) None (at shelf out l) (at shelf' out l)
  reads_so files events within same = grind arith

  -- Everything was read, and the run continued with the web.
  pub read_whole : (files : List (List ℕ)) (faults : List SourceFault) (made : Scanned) (after : Devices) → files
      ≡ new.names → faults ≡ new.faults → (IsSome shelf.blamed → Scans made old new all) → new.count.lines ≤ LINES
      → new.count.bytes ≤ BYTES → shelf' ≡ shelf
      → RunEnds (later files (web_of files faults made args.names.main))
      (acts_status (later files (web_of files faults made args.names.main))) (at shelf' out l) after status
      → EndsAs later args (tangled args.names.main merged) (at shelf out l) after status
  read_whole files faults made after files_are faults_are scans few small same ends =
      let main = args.names.main in
      let web = web_of files faults made main in
      let goes_on : (events : List Event) → IsWithinLimits (taken_lines events)
      → RunEnds (opening_acts later (tangling files events web)) (acts_status (later files web)) (at shelf out l) after
      status =
      λ events within. ends_on (reads_so files events within same) ends in
      elim (either shelf.blamed) [
        | inl observed ↦
            let first = (begins observed).name ∷ names_found (begins observed).change in
            let yields = (scans observed).yields in
            let of_files : files ≡ first ++ openings all =
            files_are ∙ names_reported first all old new (begins observed).so_far_is yields in
            let of_faults : faults ≡ reported_faults all =
            faults_are ∙ faults_reported first all old new (begins observed).so_far_is yields in
            let of_text : made ≡ scanned (emitted_lines all) = (scans observed).made in record {
              course = tangling files all web;
              can = record { faults = faults; made = made; is = refl };
              is = grind (arith, begun);
              ends = goes_on all (limits_kept _ all old new (begins observed).so_far_is yields few small);
            }
        | inr silent ↦ record {
          course = tangling files [] web;
          can = record { faults = faults; made = made; is = refl };
          is = λ tell. absurd (silent tell);
          ends = goes_on [] nothing_passes;
        }
      ]
