-- The ends of a run of `wmerge` keep its promises.
use Rattle.cweb_tools.proofs.Common.{◌≡◌, inl, inr, ℕ, ◌+◌, List, [], ◌∷◌, ◌++◌, sym, ◌∙◌, append-nil, append_assoc, arith, subst, Option, Some, IsSome, World, emitted_lines, written_lines, Stop, WriteFault, WebNames, Course, IsMergeCourse, merge_acts, merge_devices, PrintsActs, ActsKeepLimits, Act, writes, merges, prints, after_act, changed, with_printed, ending, Breaks, Devices, SinkModel, PerformsActs, RunEnds, completes, stops, printed_bytes, written_files, map, refl, LogItem, says}
use Rattle.cweb_files.specs.surface.Writes.{WritesPrefix}
use Rattle.cweb_lines.proofs.EmittedLinesAddUp.{emitted-append}
use Rattle.cweb_lines.proofs.WrittenLinesAddUp.{text_of-append}
use Rattle.cweb_tools.specs.laws.RunEffects.{EveryMergeLeavesOutput}
use Rattle.cweb_files.proofs.Appending.{written_none, written_on}
use Rattle.cweb_tools.proofs.Leaving.{printed_all}
use Rattle.cweb_tools.proofs.TanglePromisesProved.{merge_only}
use Rattle.cweb_tools.proofs.Endings.{ends_within}
use Rattle.cweb_tools.proofs.Broken.{broken, reading_broken}
use Rattle.cweb_tools.proofs.RunLaws.{fail_once, faults_show}
use Rattle.cweb_tools.specs.MergeActs as course

only_said : (items : List LogItem) → written_files (map says items) ≡ []
only_said [] = refl
only_said (item ∷ items) = only_said items

pub merge-writes-none : (way : Course) → written_files (merge_acts way) ≡ []
merge-writes-none (course.merging first events) = grind (arith, only_said)
merge-writes-none _ = refl

-- There is only one course.
pub one_course : (world : World) (args : Option WebNames) (one other : Course) → IsMergeCourse world args one
    → IsMergeCourse world args other → one ≡ other
one_course world args one other is too = merge_only world args one is ∙ sym (merge_only world args other too)

-- This was printed before a prefix.
more_before : (text : List ℕ) {more : List ℕ} (old : SinkModel) {new : SinkModel}
    → WritesPrefix more (changed (with_printed text) old) new → WritesPrefix (text ++ more) old new
more_before text old wrote = grind (arith, append_assoc, written_on)

printed_at : (act : Act) (acts : List Act) (stop : Stop) (about : List ℕ) (old new : Devices)
    → written_files (act ∷ acts) ≡ [] → Breaks act (ending stop about) old new
    → WritesPrefix (printed_bytes (act ∷ acts)) old.out new.out
printed_at (writes name text) acts stop about old new none broke = absurd (cc)
printed_at (merges names events) acts WriteFault about old new none broke = grind (arith, append_assoc)
printed_at (merges names events) acts stop about old new none broke =
    grind (arith, append_assoc, emitted-append, text_of-append, reading_broken)
printed_at (prints text) acts WriteFault about old new none broke = grind (arith, append_assoc)
printed_at (prints text) acts stop about old new none broke = absurd broke
printed_at act acts stop about old new none broke = grind (arith, written_none, broken)

printed_until : (acts : List Act) (stop : Stop) (about : List ℕ) (old new : Devices) → written_files acts ≡ []
    → PerformsActs acts (Some (ending stop about)) old new → WritesPrefix (printed_bytes acts) old.out new.out
printed_until [] stop about old new none run = absurd run
printed_until (act ∷ acts) stop about old new none (inr here) = printed_at act acts stop about old new none here
printed_until (writes name text ∷ acts) stop about old new none (inl run) = absurd (cc)
printed_until (merges names events ∷ acts) stop about old new none (inl run) =
    more_before (written_lines (emitted_lines events)) old.out (printed_until acts stop about _ new none run.1)
printed_until (prints text ∷ acts) stop about old new none (inl run) =
    more_before text old.out (printed_until acts stop about _ new none run.1)
printed_until (act ∷ acts) stop about old new none (inl run) =
    printed_until acts stop about (after_act act old) new none run.1

not_zero : {A : Type 0} (status : ℕ) → status ≡ 1 → status ≡ 0 → A
not_zero status one none = absurd (omega (arith, one, none))

printed_by : {acts : List Act} {expected : ℕ} {old new : Devices} {status : ℕ} → written_files acts ≡ []
    → RunEnds acts expected old new status → PrintsActs acts old.out new.out status
printed_by {acts} {old = old} {new = new} none (completes run answered) = grind (arith, printed_all, append-nil)
printed_by none (stops (ending stop about) then run logs answered) = grind (arith, printed_until, not_zero)

pub leave_merge : EveryMergeLeavesOutput
leave_merge world args before after status run course course_is =
    let same : IsSome before.shelf.blamed → run.course ≡ course = grind (arith, merge_only) in
    record {
      prints = λ some. subst (λ (c : Course).
          PrintsActs (merge_acts c) (merge_devices before).out (merge_devices after).out status) (same some)
          (printed_by (merge-writes-none run.course) run.ends);
      limits = λ some beyond. ends_within run.ends
          (λ within. beyond (subst (λ (c : Course). ActsKeepLimits (merge_acts c)) (same some) within));
      once = fail_once run.ends;
      faults = faults_show run.ends;
    }
