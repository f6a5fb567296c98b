-- The files and the draft after a run, and the devices after all acts were done.
use Rattle.cweb_tools.proofs.Common.{◌≡◌, inl, inr, ℕ, ◌+◌, false, List, [], ◌∷◌, ◌++◌, refl, sym, ◌∙◌, ap, Option, Some, None, File, Event, LogItem, fault_count, Shown, Devices, SinkModel, Act, says, merges, writes, prints, after_act, changed, with_file, with_printed, Ending, ending, PerformsActs, RunEnds, completes, stops, LeavesFiles, draft_in, files_in, refused, Web, written_files, script, tangling, arith, flat_map, line, written, logged_items, printed_bytes}
use Rattle.cweb_files.specs.Files.{put_file}
use Rattle.std.specs.Prelude.{fold, option_map}
use Rattle.std.proofs.lemmas.Iterator.Adapters.{option_map_id}
use Rattle.cweb_tools.proofs.Broken.{broken, draft_goes, draft_stays, files_stay, map_on}
use Rattle.cweb_tools.proofs.WebActs.{when_on, said_on, starred_on, closing_on}
use Rattle.cweb_files.proofs.Appending.{written_none, written_on, written_then}

-- Nothing was committed.
none_done : {expected : List File} {old new : SinkModel} → files_in new ≡ files_in old → LeavesFiles expected old new
none_done {expected} {old} same = grind (arith, option_map_id)

-- One more file was committed first.
pub put_first : (file : File) (done : List File) (out : SinkModel)
    → option_map (λ (files : List File). fold put_file files done)
    (files_in (changed (with_file file.name file.bytes) out))
    ≡ option_map (λ (files : List File). fold put_file files (file ∷ done)) (files_in out)
put_first file done out = grind (arith, map_on)

-- The files and the draft after acts.
abbrev Leaves : List Act → SinkModel → SinkModel → Type 0
Leaves acts old new = LeavesFiles (written_files acts) old new × (draft_in old ≡ None → draft_in new ≡ None)

-- After the printing of a text.
left_printed : (acts : List Act) (text : List ℕ) (old : SinkModel) {new : SinkModel}
    → Leaves acts (changed (with_printed text) old) new → Leaves acts old new
left_printed acts text old left = grind (arith, files_stay, draft_stays)

runs_left : (acts : List Act) (why : Option Ending) (old new : Devices) → PerformsActs acts why old new
    → Leaves acts old.out new.out
runs_left [] None old new run = grind (arith, none_done)
runs_left [] (Some why) old new run = absurd run
runs_left (writes name text ∷ acts) why old new (inl run) =
    let file : File = record { name = name; bytes = text } in
    let rest = runs_left acts why (after_act (writes name text) old) new run.1 in (
      record {
        done = file ∷ rest.0.done;
        undone = rest.0.undone;
        whole = ap (λ (fs : List File). file ∷ fs) rest.0.whole;
        is = rest.0.is ∙ put_first file rest.0.done old.out;
      },
      λ none. rest.1 (draft_goes (with_file name text) (λ now. refl) old.out),
    )
runs_left (merges names events ∷ acts) why old new (inl run) =
    left_printed acts _ old.out (runs_left acts why (after_act (merges names events) old) new run.1)
runs_left (prints text ∷ acts) why old new (inl run) =
    left_printed acts text old.out (runs_left acts why (after_act (prints text) old) new run.1)
runs_left (act ∷ acts) why old new (inl run) = runs_left acts why (after_act act old) new run.1
runs_left (act ∷ acts) None old new (inr broke) = absurd broke
runs_left (act ∷ acts) (Some (ending stop about)) old new (inr broke) = grind (arith, broken, none_done)

-- The line of a stop changes only the log.
ends_left : {acts : List Act} {expected : ℕ} {old new : Devices} {status : ℕ}
    → RunEnds acts expected old new status → Leaves acts old.out new.out
ends_left {acts} {old = old} {new = new} (completes run answered) = runs_left acts None old new run
ends_left {acts} {old = old} (stops why then run logs answered) = grind (arith, runs_left)

pub ends_files : {acts : List Act} {expected : ℕ} {old new : Devices} {status : ℕ}
    → RunEnds acts expected old new status → LeavesFiles (written_files acts) old.out new.out
ends_files ends = (ends_left ends).0

pub ends_draft : {acts : List Act} {expected : ℕ} {old new : Devices} {status : ℕ}
    → draft_in old.out ≡ None → RunEnds acts expected old new status → draft_in new.out ≡ None
ends_draft none ends = (ends_left ends).1 none

-- Acts that only log write no file.
refused_files : (shown : Shown) (names : List (List ℕ)) (events : List Event) (web : Web) (text : List ℕ)
    → web.plan ≡ refused text → written_files (script shown (tangling names events web)) ≡ []
refused_files shown names events web text is =
    let None-in : List Act → Type 0 = λ acts. written_files acts ≡ [] in
    let said : (item : LogItem) (acts : List Act)
    → Unit {0} → None-in acts → None-in (says item ∷ acts) = λ item acts said none. none in
    let Any : LogItem → Type 0 = λ item. Unit {0} in
    when_on Any None-in said shown.banner _ _ tt
    (starred_on Any None-in said shown.progress web.starred _ (λ ns. tt) (said_on Any None-in said web.faults _
    (λ item. tt) (rw is (closing_on Any None-in said shown web.numbers (fault_count web.faults + 1) false tt tt refl))))

-- If no files are expected, none is committed.
none_expected : {expected : List File} {old new : SinkModel} → expected ≡ [] → LeavesFiles expected old new
    → files_in new ≡ files_in old
none_expected {old = old} {new = new} none leaves =
    nothing leaves.done leaves.undone (sym none ∙ leaves.whole) leaves.is
  where
    nothing : (done undone : List File) → [] ≡ done ++ undone
        → files_in new ≡ option_map (λ (files : List File). fold put_file files done) (files_in old)
        → files_in new ≡ files_in old
    nothing [] undone whole is = is ∙ option_map_id (files_in old)
    nothing (file ∷ done) undone whole is = cc

pub refused_stays : (shown : Shown) (names : List (List ℕ)) (events : List Event) (web : Web) (text : List ℕ)
    → web.plan ≡ refused text → (expected : ℕ) (old new : Devices) (status : ℕ)
    → RunEnds (script shown (tangling names events web)) expected old new status
    → files_in new.out ≡ files_in old.out
refused_stays shown names events web text is expected old new status ends =
    none_expected (refused_files shown names events web text is) (ends_files ends)

-- The files.
pub files_all : (acts : List Act) (old new : Devices) → PerformsActs acts None old new
    → files_in new.out ≡ option_map (λ (files : List File). fold put_file files (written_files acts)) (files_in old.out)
files_all [] old new is = ap (λ (d : Devices). files_in d.out) is ∙ sym (option_map_id (files_in old.out))
files_all (act ∷ acts) old new (inr stop) = absurd stop
files_all (writes name text ∷ acts) old new (inl run) =
    grind (arith, put_first, files_all acts (after_act (writes name text) old) new run.1)
files_all (merges names events ∷ acts) old new (inl run) =
    grind (arith, files_stay, files_all acts (after_act (merges names events) old) new run.1)
files_all (prints text ∷ acts) old new (inl run) =
    grind (arith, files_stay, files_all acts (after_act (prints text) old) new run.1)
files_all (act ∷ acts) old new (inl run) = files_all acts (after_act act old) new run.1

-- The log.
pub log_all : (acts : List Act) (old new : Devices) → PerformsActs acts None old new
    → new.log ≡ written (flat_map line (logged_items acts)) old.log
log_all [] old new is = ap (λ (d : Devices). d.log) is ∙ written_none old.log
log_all (act ∷ acts) old new (inr stop) = absurd stop
log_all (says item ∷ acts) old new (inl run) = written_then (line item) (flat_map line (logged_items acts)) old.log refl
    (log_all acts (after_act (says item) old) new run.1)
log_all (act ∷ acts) old new (inl run) = log_all acts (after_act act old) new run.1

-- The printed bytes, without a written file.
pub printed_all : (acts : List Act) (old new : Devices) → written_files acts ≡ [] → PerformsActs acts None old new
    → new.out ≡ written (printed_bytes acts) old.out
printed_all [] old new none is = ap (λ (d : Devices). d.out) is ∙ written_none old.out
printed_all (act ∷ acts) old new none (inr stop) = absurd stop
printed_all (writes name text ∷ acts) old new none (inl run) = absurd (cc)
printed_all (merges names events ∷ acts) old new none (inl run) =
    grind (arith, written_on, printed_all acts (after_act (merges names events) old) new none run.1)
printed_all (prints text ∷ acts) old new none (inl run) =
    printed_all acts (after_act (prints text) old) new none run.1 ∙ written_on text (printed_bytes acts) old.out
printed_all (act ∷ acts) old new none (inl run) = printed_all acts (after_act act old) new none run.1
