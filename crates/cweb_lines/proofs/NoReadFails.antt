-- Calls that may read, one after another. Each but the last has read without a fault, so the shelf is as before.
use Rattle.cweb_lines.proofs.Common.{rules, ◌≡◌, ◌∙◌, ◌++◌, ℕ, List, [], Some, refl, sym, ap, so_far_of, opened_file_names, Memory, OnlyReports, SourceFault, MergeState, AppendsPassedLines, AreReadersKnown, Line, LineAt, Stop, Result, Ok, Err, IfErr, arith, Observed, ShelfContents, ShelfModel, FileId, KeepsReported}
use Rattle.cweb_lines.specs.surface.OpenSources.{BlamesFile, ReadsShelf, shelf_after}
use Rattle.cweb_lines.specs.inner.StepCalls.{KeepsReaders, Obeys, Reads, outcome}
use Rattle.cweb_lines.specs.surface.MergerCalls.{KnowsReaders, StaysKnown}
use Rattle.cweb_lines.specs.declared.merger.Merger.{Merger}
use Rattle.cweb_lines.proofs.ReportsOnlyGrow.{reported_after, reported_halted, reported_passed, reported_same, reported_then}
use Rattle.cweb_lines.proofs.ReadersStayNamed.{knows_only}

-- Want of memory blames no file.
pub unread : {R A : Type 0} (result : Result A Stop) (name : FileId → List ℕ) {old new : ShelfModel R} → new ≡ old
    → IfErr result (λ stop. stop ≡ Memory) → BlamesFile name old new result
unread (Ok x) name same memory = same
unread (Err stop) name {old} same memory = same ∙ sym (ap (λ s. shelf_after name s old) memory)

pub outcome_memory : {A : Type 0} (result : Result A Stop) → IfErr result (λ stop. stop ≡ Memory)
    → IfErr (outcome result) (λ stop. stop ≡ Memory)
outcome_memory (Ok x) memory = tt
outcome_memory (Err stop) memory = memory

-- No read failed.
abbrev pub Quiet : {R : Type 0} → ShelfModel R → ShelfModel R → MergeState R → MergeState R → Type 0
Quiet old new run run' = Reads old new run run' (Ok tt)

-- Readers that are known stay known.
abbrev pub StayKnown : {R : Type 0} → ShelfModel R → MergeState R → MergeState R → Type 0
StayKnown shelf run run' =
    Observed shelf (λ seen. AreReadersKnown seen.opened_as run → AreReadersKnown seen.opened_as run')

module _ {R : Type 0} where
  pub quiet_same : (s : ShelfModel R) (run : MergeState R) → Quiet s s run run
  quiet_same s run = search (rules, reported_same)

  pub reads_of : {A : Type 0} (result : Result A Stop) {old new : ShelfModel R} {run run' : MergeState R}
      → ReadsShelf old new result → KeepsReaders old new run run' result
      → KeepsReported (so_far_of run) (so_far_of run') → Reads old new run run' (outcome result)
  reads_of (Ok x) shelf readers still = record { shelf = shelf; readers = readers; still = still }
  reads_of (Err stop) shelf readers still = record { shelf = shelf; readers = readers; still = still }

  -- Nothing is read. Only want of memory stops the call.
  pub reads_none : {result : Result (Unit {0}) Stop} {old new : ShelfModel R} {run run' : MergeState R}
      → new ≡ old → StayKnown old run run' → KeepsReported (so_far_of run) (so_far_of run')
      → IfErr result (λ stop. stop ≡ Memory) → Reads old new run run' result
  reads_none {result = result} same readers still memory = record {
    shelf = (λ file. [], unread result _ same memory);
    readers = λ seen it known. (readers seen it known, unread result _ same memory);
    still = still;
  }

  pub reads_obeyed : {A : Type 0} {result : Result A Stop} {old new : ShelfModel R} {run run' : MergeState R}
      {bytes : List ℕ} {at : LineAt} {lines : A → List Line} → Obeys old new run run' bytes at lines result
      → Reads old new run run' (outcome result)
  reads_obeyed {result = result} obeys = search (rules, reads_none, outcome_memory)

  pub reads_passed : {room : ℕ} {s : ShelfModel R} {run run' : MergeState R} {buffer more : List ℕ}
      → AppendsPassedLines room run run' buffer more → Quiet s s run run'
  reads_passed passes = reads_none refl (λ seen it known. passes.readers _ known) (reported_passed passes) tt

  pub reads_halted : {s : ShelfModel R} {run run' : MergeState R} {stop : Stop}
      → ((opened_as : R → List ℕ) → AreReadersKnown opened_as run → AreReadersKnown opened_as run')
      → so_far_of run' ≡ so_far_of run → stop ≡ Memory → Reads s s run run' (Err stop)
  reads_halted readers same memory = search (rules, reads_none, reported_halted)

  -- A call that doesn't have the shelf reports faults.
  pub reads_reported : {result : Result (Unit {0}) Stop} {s : ShelfModel R} {run run' : MergeState R}
      (more : List SourceFault) → OnlyReports run run' → run'.faults.items ≡ run.faults.items ++ more
      → IfErr result (λ stop. stop ≡ Memory) → Reads s s run run' result
  reads_reported more only reported memory = reads_none refl (λ seen it known. knows_only only known)
      (reported_after _ _ more reported (ap opened_file_names only.names)) memory

  -- What isn't in the frame changes.
  pub reads_set : {result : Result (Unit {0}) Stop} {old new : ShelfModel R} {x y : MergeState R} (z : MergeState R)
      → z.stack ≡ y.stack → z.change ≡ y.change → so_far_of z ≡ so_far_of y
      → Reads old new x y result → Reads old new x z result
  reads_set {y = y} z stack change same reads = grind arith

  pub stays_known : {A : Type 0} (result : Result A Stop) {old new : ShelfModel R} {S : Type 0}
      {merger merger' : Merger S R} → Reads old new merger.run merger'.run (outcome result)
      → Observed old (λ seen. KnowsReaders seen merger → StaysKnown seen old new merger merger' result)
  stays_known (Ok x) reads = grind arith
  stays_known (Err stop) reads = grind arith

  module _ {a b : ShelfModel R} {x y : MergeState R} (first : Quiet a b x y) where
    pub still_seen : {seen : ShelfContents R} → a.contents ≡ Some seen → b.contents ≡ Some seen
    still_seen it = ap (λ (s : ShelfModel R). s.contents) first.shelf.1 ∙ it

    pub reads_then : {result : Result (Unit {0}) Stop} {c : ShelfModel R} {z : MergeState R}
        → Reads b c y z result → Reads a c x z result
    reads_then then = record {
      shelf = rw first.shelf.1 at then.shelf;
      readers = λ seen it known. rw first.shelf.1 at
          (then.readers seen (still_seen it) (first.readers seen it known).0);
      still = reported_then _ _ _ first.still then.still;
    }
