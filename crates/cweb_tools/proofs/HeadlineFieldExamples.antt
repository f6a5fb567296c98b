-- Worked examples: what each field of the headlines' records says of a run and its devices.
use Rattle.cweb_tools.proofs.Common.{FileId, SourceLine, emitted_lines, written_lines, BreaksLimit, LineTooLong, ReadFault, OutNotOpened, WriteFault, LogFault, Breaks, merges, ending, ◌≡◌, ◌+◌, ℕ, List, [], ◌∷◌, ◌++◌, refl, ◌∙◌, ap, arith, codes, Option, Some, None, IsSome, File, Device, Line, Event, took, fault, World, Found, web_at, change_at, found_course, OptionsModel, WebNames, Devices, SinkContents, SinkModel, appended, blaming, changed, failing, files_in, with_file, with_printed, without_file, Act, says, reads, writes, prints, after_act, RunEnds, completes, stops, RanFreely, DoesActs, acts_status, script, shown_by, Course, change_name, CanCome, MergeCanCome, TangleCourse, unread, not_there, change_not_there, tangling, tangled, planning, Web, Scanned, TanglePromises}
use Rattle.cweb_files.specs.Files.{put_file}
use Rattle.cweb_files.specs.surface.Writes.{always_open}
use Rattle.std.specs.Prelude.{fold, option_map}
use Rattle.cweb_tools.specs.Items.{writing}
use Rattle.cweb_files.specs.declared.place.Place.{Place}
use Rattle.cweb_lines.specs.Events.{emitted}
use Rattle.cweb_tools.specs.MergeActs as course
use Rattle.cweb_tools.proofs.TanglePromisesProved.{tangle_only}
use Rattle.cweb_tools.proofs.TangleExamples.{file}

-- The acts of one output.
abbrev output : List Act
output = says (writing (codes "a.c")) ∷ writes (codes "a.c") (codes "x\n") ∷ []

-- `RanFreely`: no run of these is a free one.
module _ {acts : List Act} {before after : Devices} (free : RanFreely acts before after) where
  failed_read : after.shelf.failed ≡ before.shelf.failed + 1 → ⊥
  failed_read failed = omega (arith, failed, free.shelf)

  failed_output : after.out.failed ≡ before.out.failed + 1 → ⊥
  failed_output failed = omega (arith, failed, free.out)

  failed_log : after.log.failed ≡ before.log.failed + 1 → ⊥
  failed_log failed = omega (arith, failed, free.log)

-- A line of a MiB.
long_line : (line : Line) (before after : Devices) → RanFreely (reads (codes "a.w" ∷ [])
    (took (record { line = line; length = 1_048_576; size = 1_048_577 }) ∷ []) ∷ []) before after → ⊥
long_line line before after free = omega (arith, free.within.0.short.0)

-- Memory ran out in a file, after the line that it is written.
out_of_memory : (before after : Devices)
    → after.log.contents ≡ appended (codes "Writing a.c\n! Out of memory\n") before.log.contents
    → RanFreely output before after → ⊥
out_of_memory before after logged free =
    free.memory (says (writing (codes "a.c")) ∷ []) [] (writes (codes "a.c") (codes "x\n")) refl refl logged

-- `DoesActs`: an older a.c is replaced.
replaced : (before after : Devices) (status : ℕ) → DoesActs output before after status
    → files_in before.out ≡ Some (file (codes "a.c") (codes "old\n") ∷ file (codes "b.c") (codes "y\n") ∷ [])
    → files_in after.out ≡ Some (file (codes "b.c") (codes "y\n") ∷ file (codes "a.c") (codes "x\n") ∷ [])
replaced before after status did older = did.files ∙ ap (option_map (λ (files : List File).
    fold put_file files (file (codes "a.c") (codes "x\n") ∷ []))) older

announced : (before after : Devices) (status : ℕ) → DoesActs output before after status
    → after.log.contents ≡ appended (codes "Writing a.c\n") before.log.contents
announced before after status did = did.logged

no_fault : (before after : Devices) (status : ℕ) → DoesActs output before after status → status ≡ 0
no_fault before after status did = did.answered

one_fault : (before after : Devices) (status : ℕ) → DoesActs (says (fault (codes "Cycle: <A> <A>")) ∷ output)
    before after status → status ≡ 1
one_fault before after status did = did.answered

-- An output that is open gets what is printed.
abbrev open_with : List ℕ → Option SinkContents
open_with text = Some (record { bytes = text; beside = always_open })

rule : (before after : Devices) (status : ℕ) → DoesActs (prints (codes "a.c: a.w\n") ∷ []) before after status
    → before.out.contents ≡ open_with (codes "% ") → after.out.contents ≡ open_with (codes "% a.c: a.w\n")
rule before after status did is_open = ap (λ (out : SinkModel). out.contents) (did.printed refl)
    ∙ ap (option_map (with_printed (codes "a.c: a.w\n"))) is_open

-- `Breaks`: a read of a.w failed. The shelf counts it and blames a.w.
read_fails : (file : FileId) (events : List Event) (old new : Devices)
    → Breaks (reads (codes "a.w" ∷ []) events) (ending (ReadFault file) (codes "a.w")) old new
    → old.shelf.blamed ≡ Some [] → new.shelf ≡ record {
      failed = old.shelf.failed + 1;
      blamed = Some (codes "a.w" ∷ []);
    }
read_fails file events old new broke none = ap (λ (d : Devices). d.shelf) broke.fails.1
    ∙ (λ i. blaming (codes "a.w") (record { failed = old.shelf.failed; blamed = none i }))

-- A file could not be begun. The bins count that and have the reason, the old files and no draft.
refuses : (old new : Devices)
    → Breaks (writes (codes "a.c") (codes "x\n")) (ending OutNotOpened (codes "a.c")) old new
    → old.out.contents ≡ open_with [] → new.out ≡ record {
      failed = old.out.failed + 1;
      contents =
          Some (record { bytes = []; beside = record { files = []; draft = None; refused = Some Device } });
    }
refuses old new broke is_open = ap (λ (d : Devices). d.out) broke.1
    ∙ (λ i. failing (without_file (Some Device)) (record { failed = old.out.failed; contents = is_open i }))

-- A file could not be committed.
loses : (old new : Devices) → Breaks (writes (codes "a.c") (codes "x\n")) (ending WriteFault (codes "a.c")) old new
    → old.out.contents ≡ open_with [] → new.out ≡ record {
      failed = old.out.failed + 1;
      contents = Some (record { bytes = []; beside = record { files = []; draft = None; refused = None } });
    }
loses old new broke is_open = ap (λ (d : Devices). d.out) broke.1
    ∙ (λ i. failing (without_file None) (record { failed = old.out.failed; contents = is_open i }))

-- A file is committed. Then there is no draft.
commits : (now : Devices) → now.out.contents ≡ open_with []
    → (after_act (writes (codes "a.c") (codes "x\n")) now).out ≡ record {
      failed = now.out.failed;
      contents = Some (record {
        bytes = [];
        beside = record { files = file (codes "a.c") (codes "x\n") ∷ []; draft = None; refused = None };
      });
    }
commits now is_open = λ i.
    changed (with_file (codes "a.c") (codes "x\n")) (record { failed = now.out.failed; contents = is_open i })

-- The log failed within a line.
log_fails : (old new : Devices) → Breaks (says (writing (codes "a.c"))) (ending LogFault []) old new
    → old.log.contents ≡ open_with [] → (new.log.failed ≡ old.log.failed + 1)
    × ((prefix rest : List ℕ) × (new.log.contents ≡ open_with prefix) × (codes "Writing a.c\n" ≡ prefix ++ rest))
log_fails old new broke none = (
  ap (λ (log : SinkModel). log.failed) broke.log.is,
  (
    broke.log.prefix,
    broke.log.rest,
    ap (λ (log : SinkModel). log.contents) broke.log.is ∙ ap (appended broke.log.prefix) none,
    broke.log.whole,
  ),
)

-- `CanCome`: words that can be read don't lead to the usage line, and others only to that.
never_unread : (args : OptionsModel) → CanCome (Some args) unread → ⊥
never_unread args can = can

only_unread : (course : TangleCourse) → CanCome None course → course ≡ unread
only_unread unread can = refl
only_unread course can = absurd can

-- A missing file is one of the words' names.
missing_web : (args : OptionsModel) (web : List ℕ) → CanCome (Some args) (not_there web) → web ≡ args.names.merge.web
missing_web args web can = can

missing_change : (args : OptionsModel) (change : List ℕ) → CanCome (Some args) (change_not_there change)
    → change ≡ change_name args.names.merge.change
missing_change args change can = can

-- The outputs are those of what was scanned, and the first is named by the words.
planned_web : (args : OptionsModel) (files : List (List ℕ)) (events : List Event) (web : Web)
    → CanCome (Some args) (tangling files events web)
    → (made : Scanned) × (web.plan ≡ planning made.store files args.names.main)
planned_web args files events web can = (can.made, ap (λ (w : Web). w.plan) can.is)

-- `MergeCanCome`, likewise.
merge_never_unread : (names : WebNames) → MergeCanCome (Some names) course.unread → ⊥
merge_never_unread names can = can

merge_only_unread : (taken : Course) → MergeCanCome None taken → taken ≡ course.unread
merge_only_unread course.unread can = refl
merge_only_unread taken can = absurd can

merge_missing_web : (names : WebNames) (web : List ℕ) → MergeCanCome (Some names) (course.not_there web)
    → web ≡ names.web
merge_missing_web names web can = can

merge_missing_change : (names : WebNames) (change : List ℕ)
    → MergeCanCome (Some names) (course.change_not_there change) → change ≡ change_name names.change
merge_missing_change names change can = can

-- `FollowsActs`: whatever the shelf, a run of `ctangle` with unreadable words ends with status 1.
one_by : {acts : List Act} {old new : Devices} {status : ℕ} (expected : ℕ) → expected ≡ 1
    → RunEnds acts expected old new status → status ≡ 1
one_by expected is (completes run answered) = answered ∙ is
one_by expected is (stops why mid run logs answered) = answered

unread_words : (world : World) (before after : Devices) (status : ℕ) → TanglePromises world None before after status
    → status ≡ 1
unread_words world before after status run =
    one_by _ (ap (λ (c : TangleCourse). acts_status (script (shown_by None) c)) (only_unread run.course run.can))
    run.ends

-- Over an observable shelf a run goes as the files ask for: without any file, no web is there.
abbrev empty_folder : World
empty_folder = record { texts = λ name. None; inputs = None }

no_web : (web : List ℕ) (second : Option (List ℕ)) → web_at empty_folder.texts web second ≡ None
no_web web None = refl
no_web web (Some second) = refl

no_files : (args : OptionsModel) (before after : Devices) (status : ℕ)
    → (run : TanglePromises empty_folder (Some args) before after status) → IsSome before.shelf.blamed
    → run.course ≡ not_there args.names.merge.web
no_files args before after status run some = tangle_only empty_folder (Some args) run.course (run.is some)
    ∙ ap (λ (found : Option Found). tangled args.names.main (found_course empty_folder args.names.merge found
    (change_at empty_folder.texts args.names.merge.change))) (no_web args.names.merge.web args.names.merge.second)

-- `BreaksReading`: a merge that comes to a line of a MiB has printed the line before it.
module _ (file : FileId) (place : Place) (long : Line) where
  abbrev short : SourceLine
  short = record { line = record { bytes = codes "a"; place = place }; length = 1; size = 2 }

  abbrev events : List Event
  events = took short ∷ emitted short.line
      ∷ took (record { line = long; length = 1_048_576; size = 1_048_577 }) ∷ []

  printed_by : (earlier later : List Event) → events ≡ earlier ++ later → BreaksLimit (LineTooLong file) earlier later
      → written_lines (emitted_lines earlier) ≡ codes "a\n"
  printed_by [] later whole limit =
      let first : took short ≡ took limit.line = cc in
      let same : short ≡ limit.line = cc in
      absurd (omega (arith, limit.why.1, ap (λ (line : SourceLine). line.length) same))
  printed_by (e ∷ []) later whole limit = let second : emitted short.line ≡ took limit.line = cc in absurd (cc)
  printed_by (e ∷ f ∷ []) later whole limit =
      let first : e ≡ took short = cc in
      let second : f ≡ emitted short.line = cc in
      λ i. written_lines (emitted_lines (first i ∷ second i ∷ []))
  printed_by (e ∷ f ∷ g ∷ earlier) later whole limit =
      let none : [] ≡ earlier ++ (took limit.line ∷ limit.more) = cc in
      absurd (no_more earlier (took limit.line) limit.more none)
    where
      no_more : (earlier : List Event) (e : Event) (later : List Event) → [] ≡ earlier ++ (e ∷ later) → ⊥
      no_more [] e later none = cc
      no_more (x ∷ earlier) e later none = cc

  printed_before_limit : (about : List ℕ) (old new : Devices)
      → Breaks (merges (codes "a.w" ∷ []) events) (ending (LineTooLong file) about) old new
      → new.out ≡ changed (with_printed (codes "a\n")) old.out
  printed_before_limit about old new broke = ap (λ (now : Devices). now.out) broke.fails.2
      ∙ ap (λ (text : List ℕ). changed (with_printed text) old.out)
      (printed_by broke.earlier broke.later broke.whole broke.fails.1)
