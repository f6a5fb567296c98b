-- The exits of a run of `wmerge`, before and after its merge began.
use Rattle.cweb_tools.proofs.Common.{◌≤◌, ◌≡◌, inl, inr, ℕ, ◌+◌, List, [], ◌∷◌, ◌++◌, length, map, refl, sym, subst, ◌∙◌, ap, append-nil, Option, Some, IsSome, names_found, World, Found, Event, SoFar, EmitsLines, ReportsPrefix, files_named, emitted_lines, reported_faults, openings, taken_lines, IsWithinLimits, BeginsMerge, written_lines, StopsWriting, WritingStops, WritesPrefix, SourceFault, LINES, BYTES, Stop, Logs, stop_line, subject, source_item, SinkModel, FailedReads, Devices, LogItem, WebNames, Course, merging, found_course, FollowsActs, MergeCanCome, merge_acts, acts_status, judges, opens, says, merges, at, Breaks, ending, appended, changed, with_printed, write_failures_of, RunEnds, EndsInLog, None, StartStops, StopsAtStart, WebNotOpened, ChangeNotOpened, Memory, start_subject, stopped, line, merge_course, change_name, EndsMerge}
use Rattle.cweb_lines.specs.Events.{fault}
use Rattle.cweb_tools.proofs.Exits.{either, begins_course, opened_by, names_reported, faults_reported, limits_kept}
use Rattle.cweb_tools.proofs.Doing.{ends_halted, ends_on}
use Rattle.cweb_tools.proofs.Broken.{shelf_after}
use Rattle.cweb_tools.proofs.MergeStops.{out_is, out_after, writing_ends, left_after, prints_so, prints_none, out_of}
use Rattle.cweb_tools.proofs.ReadingStops.{read_by, nothing_passes}
use Rattle.cweb_tools.proofs.TanglePromisesProved.{no_change, no_web}
use Rattle.cweb_tools.proofs.RunEnds.{Judges, memory_stops}
use Rattle.cweb_tools.proofs.TangleExits.{reported_last}
use Rattle.cweb_tools.specs.MergeActs.{unread, not_there, change_not_there}

-- The acts of a course that the words allow.
pub begins_acts : (names : WebNames) (course : Course) → MergeCanCome (Some names) course → Judges (merge_acts course)
begins_acts names unread can = absurd can
begins_acts names (not_there web) can = (_, refl)
begins_acts names (change_not_there change) can = (_, refl)
begins_acts names (merging first events) can = (_, refl)

pub can_merge : (names : WebNames) (world : World) (found : Option Found) (changes : Option (Option Found))
    → MergeCanCome (Some names) (found_course world names found changes)
can_merge names world None changes = refl
can_merge names world (Some web) None = refl
can_merge names world (Some web) (Some change) = tt

pub can_run : (world : World) (args : Option WebNames) → MergeCanCome args (merge_course world args)
can_run world None = tt
can_run world (Some names) = can_merge names world _ _

-- A merge could not begin.
module _ (world : World) (names : WebNames) (shelf : FailedReads) (out : SinkModel) (l l' : SinkModel) (status : ℕ)
    (answered : status ≡ 1) where
  ends_said : (item : LogItem) → Logs (line item) l l' → RunEnds (judges ∷ opens ∷ says item ∷ []) 1
      (at shelf (out_of shelf out) l) (at shelf (out_of shelf out) l') status
  ends_said item logs = ends_on {xs = judges ∷ opens ∷ []} {mid = at shelf (out_of shelf out) l}
      (record { runs = inl (tt, inl (tt, refl)) }) (rw answered (reported_last item shelf (out_of shelf out) logs))

  pub start_stopped : (found : Option Found) (changes : Option (Option Found)) (stop : Stop) → StartStops stop
      → (IsSome shelf.blamed → StopsAtStart stop found changes)
      → Logs (stop_line stop (start_subject names.web (change_name names.change) stop)) l l'
      → EndsMerge (Some names) (found_course world names found changes) (at shelf out l) (at shelf out l') status
  start_stopped found changes WebNotOpened comes why logs = record {
    course = not_there names.web;
    can = refl;
    is = λ tell. no_web world names found changes (why tell);
    ends = ends_said (stopped WebNotOpened names.web) logs;
  }
  start_stopped found changes ChangeNotOpened comes why logs = record {
    course = change_not_there (change_name names.change);
    can = refl;
    is = λ tell. no_change world names found changes (why tell).0 (why tell).1;
    ends = ends_said (stopped ChangeNotOpened (change_name names.change)) logs;
  }
  start_stopped found changes Memory comes why logs =
      let can = can_merge names world found changes in
      memory_stops merge_acts {CanBe = MergeCanCome (Some names)} (found_course world names found changes) can
      (begins_acts names _ can) shelf (out_of shelf out) logs answered
  start_stopped found changes stop comes why logs = absurd comes

-- Faults that an unobservable shelf may have had.
opens_none : (faults : List SourceFault) → openings (map fault faults) ≡ []
opens_none [] = refl
opens_none (met ∷ faults) = opens_none faults

reports_all : (faults : List SourceFault) → reported_faults (map fault faults) ≡ faults
reports_all [] = refl
reports_all (met ∷ faults) = ap (λ (all : List SourceFault). met ∷ all) (reports_all faults)

takes_none : (faults : List SourceFault) → taken_lines (map fault faults) ≡ []
takes_none [] = refl
takes_none (met ∷ faults) = takes_none faults

-- A run of `wmerge` between these devices.
abbrev Merges : WebNames → Course → Devices → Devices → ℕ → Type 0
Merges names course before after status =
    FollowsActs merge_acts (MergeCanCome (Some names)) (λ taken. taken ≡ course) before after status

-- A run that begins a merge with these events.
module _ (world : World) (names : WebNames) (found : Option Found) (changes : Option (Option Found))
    (shelf shelf' : FailedReads) (out out' l l' : SinkModel) (status : ℕ) (old : SoFar) (all : List Event)
    (begins : IsSome shelf.blamed → BeginsMerge world found changes old all) where
  begun : (some : IsSome shelf.blamed)
      → found_course world names found changes ≡ merging ((begins some).name ∷ names_found (begins some).change) all
  begun some = begins_course world names found changes (begins some)

  -- Everything was read and printed.
  whole_so : (first files : List (List ℕ)) (events : List Event) (faults : List SourceFault)
      → files ≡ first ++ openings events → faults ≡ reported_faults events → IsWithinLimits (taken_lines events)
      → shelf' ≡ shelf → out' ≡ changed (with_printed (written_lines (emitted_lines events))) out
      → EndsInLog (map says (map (source_item files) faults))
      (acts_status (map says (map (source_item files) faults)))
      l l' status
      → RunEnds (merge_acts (merging first events)) (acts_status (merge_acts (merging first events)))
      (at shelf out l) (at shelf' out' l') status
  whole_so first files events faults files_are faults_are within same printed ends =
      ends_on {xs = judges ∷ opens ∷ merges (first ++ openings events) events ∷ []}
      (record { runs = inl (tt, inl (tt, inl (within, (λ i. at (same i) (printed i) l)))) })
      (subst (λ (items : List LogItem). EndsInLog (map says items) (acts_status (map says items)) l l' status)
      (λ i. map (source_item (files_are i)) (faults_are i)) ends shelf' out')

  pub completed : (new : SoFar) (files : List (List ℕ)) (faults : List SourceFault)
      → files ≡ new.names → faults ≡ new.faults
      → (IsSome shelf.blamed → EmitsLines (emitted_lines all) old new all [])
      → new.count.lines ≤ LINES → new.count.bytes ≤ BYTES → shelf' ≡ shelf
      → ((events : List Event) → (IsSome shelf.blamed → events ≡ all)
      → out' ≡ changed (with_printed (written_lines (emitted_lines events))) out)
      → EndsInLog (map says (map (source_item files) faults))
      (acts_status (map says (map (source_item files) faults)))
      l l' status → Merges names (found_course world names found changes) (at shelf out l) (at shelf' out' l') status
  completed new files faults files_are faults_are yields few small same printed ends =
      elim (either shelf.blamed) [
        | inl some ↦
            let first = (begins some).name ∷ names_found (begins some).change in record {
              course = merging first all;
              can = tt;
              is = λ again. sym (begun some);
              ends = whole_so first files all faults
                  (files_are ∙ names_reported first all old new (begins some).so_far_is (yields some))
                  (faults_are ∙ faults_reported first all old new (begins some).so_far_is (yields some))
                  (limits_kept first all old new (begins some).so_far_is (yields some) few small) same
                  (printed all (λ _. refl)) ends;
            }
        | inr silent ↦ record {
          course = merging files (map fault faults);
          can = tt;
          is = λ some. absurd (silent some);
          ends = whole_so files files (map fault faults) faults
              (sym (ap (λ (ns : List (List ℕ)). files ++ ns) (opens_none faults) ∙ append-nil files))
              (sym (reports_all faults)) (rw (takes_none faults) nothing_passes) same
              (printed (map fault faults) (λ some. absurd (silent some))) ends;
        }
      ]

  -- Merging ended early.
  stops_so : (stop : Stop) (first opened : List (List ℕ)) (events : List Event) (prefix : List ℕ) → WritingStops stop
      → shelf' ≡ shelf_after stop (subject opened stop) shelf → out' ≡ out_after stop prefix out
      → Breaks (merges (first ++ openings events) events) (ending stop (subject opened stop)) (at shelf out l)
      (left_after stop opened prefix (at shelf out l)) → Logs (stop_line stop (subject opened stop)) l l' → status ≡ 1
      → RunEnds (merge_acts (merging first events)) (acts_status (merge_acts (merging first events)))
      (at shelf out l) (at shelf' out' l') status
  stops_so stop first opened events prefix kind read wrote breaks logs answered =
      ends_halted {why = ending stop (subject opened stop)} {then = at shelf' out' l}
      (rw read (rw wrote (record { runs = inl (tt, inl (tt, inr breaks)) })))
      (record { log = writing_ends stop (subject opened stop) kind logs; others = refl }) answered

  pub halted_early : (stop : Stop) (new : SoFar) (opened : List (List ℕ)) (Wrote : List ℕ → Type 0)
      → opened ≡ new.names → new.count.lines ≤ LINES → new.count.bytes ≤ BYTES → WritingStops stop
      → (IsSome shelf.blamed → StopsWriting stop old new all Wrote)
      → ((text : List ℕ) → Wrote text → out'.contents ≡ appended text out.contents)
      → files_named stop ≤ length new.names
      → (IsSome shelf.blamed → ReportsPrefix old new all) → shelf' ≡ shelf_after stop (subject opened stop) shelf
      → (IsSome shelf.blamed → WritesPrefix (written_lines (emitted_lines all)) out out')
      → ((IsSome shelf.blamed → ⊥) → out'.contents ≡ appended [] out.contents)
      → out'.failed ≡ out.failed + write_failures_of stop
      → Logs (stop_line stop (subject opened stop)) l l' → status ≡ 1
      → Merges names (found_course world names found changes) (at shelf out l) (at shelf' out' l') status
  halted_early stop new opened Wrote opened_are few small kind why wrote named reports read printed none failed logs
      answered =
      let known : files_named stop ≤ length opened = rw opened_are named in
      elim (either shelf.blamed) [
        | inl some ↦
            let first = (begins some).name ∷ names_found (begins some).change in
            let later = opened_by first (begins some).so_far_is (reports some) opened opened_are in
            let prints = prints_so _ opened later.0 later.1 all stop new Wrote {out = out} {out' = out'}
            (begins some).so_far_is few small kind known (why some) wrote (printed some) in record {
              course = merging first all;
              can = tt;
              is = λ again. sym (begun some);
              ends = stops_so stop first opened all prints.prefix kind read
                  (out_is stop prints.prefix out out' failed prints.is)
                  (prints.breaks (at shelf out l)) logs answered;
            }
        | inr silent ↦
            let prints = prints_none stop opened (openings (read_by stop)) {out = out} {out' = out'} kind known
            (none silent) in record {
              course = merging opened (read_by stop);
              can = tt;
              is = λ some. absurd (silent some);
              ends = stops_so stop opened opened (read_by stop) prints.prefix kind read
                  (out_is stop prints.prefix out out' failed prints.is) (prints.breaks (at shelf out l)) logs answered;
            }
      ]
