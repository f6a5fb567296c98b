-- Earlier reports are a prefix of later ones.
use Rattle.cweb_lines.proofs.Common.{rules, ◌≡◌, ◌≤◌, ℕ, List, [], ◌++◌, None, length, ap, arith, length-append, Result, Ok, Err, OnOk, OnErr, append-nil, append_assoc, Line, Event, SoFar, EmitsLines, IsPrefix, KeepsReported, Grows, so_far_of, opened_file_names, AppendsPassedLines, OnlyTakes, SourceFault, MergeState}

prefix_then : {A : Type 0} (a b c : List A) → IsPrefix a b → IsPrefix b c → IsPrefix a c
prefix_then a b c first then = (first.0 ++ then.0, simp (then.1, first.1, append_assoc))

pub reported_then : (a b c : SoFar) → KeepsReported a b → KeepsReported b c → KeepsReported a c
reported_then a b c first then = search (rules, prefix_then)

pub reported_more : (old new : SoFar) (faults : List SourceFault) (names : List (List ℕ))
    → new.faults ≡ old.faults ++ faults → new.names ≡ old.names ++ names → KeepsReported old new
reported_more old new faults names faults_are names_are = search rules

pub reported_same : (old new : SoFar) → new.faults ≡ old.faults → new.names ≡ old.names → KeepsReported old new
reported_same old new faults names = reported_more old new [] [] (simp (faults, append-nil)) (simp (names, append-nil))

pub reported_files : (old new : SoFar) → KeepsReported old new → length old.names ≤ length new.names
reported_files old new reported = grind (arith, length-append)

pub reported_emitted : (lines : List Line) (old new : SoFar) (all later : List Event)
    → EmitsLines lines old new all later
    → KeepsReported old new
reported_emitted lines old new all later yields = reported_more old new _ _ yields.faults yields.names

pub reported_after : (old new : SoFar) (more : List SourceFault) → new.faults ≡ old.faults ++ more
    → new.names ≡ old.names → KeepsReported old new
reported_after old new more faults names = reported_more old new more [] faults (simp (names, append-nil))

pub reported_if : {A E : Type 0} (result : Result A E) (old new : SoFar) (more : List SourceFault)
    → OnOk result (new.faults ≡ old.faults ++ more) → OnErr result (new.faults ≡ old.faults)
    → new.names ≡ old.names → KeepsReported old new
reported_if (Ok x) old new more reported same names = reported_after old new more reported names
reported_if (Err e) old new more reported same names = reported_same old new same names

pub took_faults : {R : Type 0} {old new : MergeState R} → OnlyTakes old new → new.faults.items ≡ old.faults.items
took_faults only = λ i. (only.faults i).items

pub took_names : {R : Type 0} {old new : MergeState R} → OnlyTakes old new
    → opened_file_names new.names ≡ opened_file_names old.names
took_names only = ap opened_file_names only.names

pub grows_reported : {R : Type 0} {old : SoFar} (run : MergeState R) → KeepsReported old (so_far_of run)
    → Grows old (so_far_of run)
grows_reported run reported = record { reported = reported; lines = run.limits.few; bytes = run.limits.small }

pub reported_passed : {R : Type 0} {room : ℕ} {old new : MergeState R} {buffer more : List ℕ}
    → AppendsPassedLines room old new buffer more
    → KeepsReported (so_far_of old) (so_far_of new)
reported_passed {old = old} {new = new} passes = reported_emitted _ _ _ _ _ (passes.yields (λ _. None) (λ _. []))

pub reported_halted : {old new : SoFar} → new ≡ old → KeepsReported old new
reported_halted {old = old} {new = new} is = search (rules, reported_same)
