-- The devices after a stop within an act.
use Rattle.cweb_tools.proofs.Common.{◌≡◌, inl, inr, ℕ, ◌+◌, List, [], ◌∷◌, refl, sym, ◌∙◌, ap, add-zero, arith, Option, Some, None, read_failures_of, bins_blame, Event, Stop, ReadFault, LineTooLong, TooMuchText, Memory, OutNotOpened, WriteFault, LogFault, Devices, SinkContents, SinkModel, FailedReads, Act, says, reads, merges, writes, prints, FailsReading, FailsOutput, after_act, blaming, changed, failing, with_printed, ending, Breaks, PerformsActs, draft_in, files_in}
use Rattle.std.specs.Prelude.{option_map}

-- Two changes of an option.
pub map_on : {A B C : Type 0} (f : A → B) (g : B → C) (x : Option A)
    → option_map g (option_map f x) ≡ option_map (λ (x : A). g (f x)) x
map_on f g None = refl
map_on f g (Some x) = refl

-- The files and the draft after a change of an output's contents.
pub files_stay : (change : SinkContents → SinkContents) → ((now : SinkContents) → (change now).beside.files ≡
    now.beside.files)
    → (out : SinkModel) → files_in (changed change out) ≡ files_in out
files_stay change same out = grind (arith, map_on)

pub draft_goes : (change : SinkContents → SinkContents) → ((now : SinkContents) → (change now).beside.draft ≡ None)
    → (out : SinkModel) → draft_in (changed change out) ≡ None
draft_goes change gone out = grind arith

-- Without a draft nothing is printed.
pub draft_stays : (text : List ℕ) (out : SinkModel) → draft_in out ≡ None
    → draft_in (changed (with_printed text) out) ≡ None
draft_stays text out none = grind arith

-- The shelf after a stop.
abbrev pub shelf_after : Stop → List ℕ → FailedReads → FailedReads
shelf_after (ReadFault file) about shelf = blaming about shelf
shelf_after stop about shelf = shelf

pub shelf_counted : (stop : Stop) (about : List ℕ) (old : FailedReads) {new : FailedReads}
    → new ≡ shelf_after stop about old → new.failed ≡ old.failed + read_failures_of stop
shelf_counted (ReadFault file) about old is = ap (λ (shelf : FailedReads). shelf.failed) is
shelf_counted stop about old is = ap (λ (shelf : FailedReads). shelf.failed) is ∙ sym (add-zero old.failed)

-- Acts that write and print change the output.
abbrev pub IsOfOutput : Act → Type 0
IsOfOutput (writes name text) = Unit {0}
IsOfOutput (merges names events) = Unit {0}
IsOfOutput (prints text) = Unit {0}
IsOfOutput _ = ⊥

-- A stop changes no file and leaves no draft. The failure count of its device rises. Only a log fault changes the log.
pub record Broken (act : Act) (stop : Stop) (about : List ℕ) (old new : Devices) : Type 0 where
  pub files : files_in new.out ≡ files_in old.out
  pub draft : draft_in old.out ≡ None → draft_in new.out ≡ None
  pub out : (IsOfOutput act → ⊥) → new.out ≡ old.out
  pub shelf : new.shelf ≡ shelf_after stop about old.shelf
  pub bins : new.out.failed ≡ old.out.failed + bins_blame stop
  pub log : (stop ≡ LogFault → ⊥) → new.log ≡ old.log

-- Only the shelf changed.
quiet : {act : Act} {stop : Stop} {about : List ℕ} {old new : Devices} → bins_blame stop ≡ 0
    → new ≡ record old { shelf = shelf_after stop about old.shelf } → Broken act stop about old new
quiet {act} {stop} {about} {old} no_bins is = grind arith

pub reading_broken : (act : Act) (names : List (List ℕ)) (earlier later : List Event) (stop : Stop) (about : List ℕ)
    (old new : Devices) → FailsReading names earlier later (ending stop about) old new → Broken act stop about old new
reading_broken act names earlier later (ReadFault file) about old new broke = quiet refl broke.1
reading_broken act names earlier later (LineTooLong file) about old new broke = quiet refl broke.2
reading_broken act names earlier later TooMuchText about old new broke = quiet refl broke.1
reading_broken act names earlier later Memory about old new broke = quiet refl broke
reading_broken act names earlier later stop about old new broke = absurd broke

-- A change of the output.
module _ {act : Act} {stop : Stop} {about : List ℕ} (of_output : IsOfOutput act) (change : SinkContents → SinkContents)
    {old new : Devices} (same : (now : SinkContents) → (change now).beside.files ≡ now.beside.files)
    (closed : draft_in old.out ≡ None → draft_in (changed change old.out) ≡ None)
    (no_read : shelf_after stop about old.shelf ≡ old.shelf) where
  output_broken : new ≡ record old { out = failing change old.out } → bins_blame stop ≡ 1
      → Broken act stop about old new
  output_broken is more = grind (arith, files_stay)

  output_refused : new ≡ record old { out = changed change old.out } → bins_blame stop ≡ 0
      → Broken act stop about old new
  output_refused is none = grind (arith, files_stay)

print_broken : {act : Act} {text about : List ℕ} {old new : Devices} → IsOfOutput act
    → FailsOutput text about old new → Broken act WriteFault about old new
print_broken {old = old} of_output fails = grind (arith, draft_stays)

pub broken : (act : Act) (stop : Stop) (about : List ℕ) (old new : Devices)
    → Breaks act (ending stop about) old new → Broken act stop about old new
broken (says item) LogFault about old new broke = grind (arith, add-zero)
broken (reads names events) stop about old new broke = grind (arith, reading_broken)
broken (merges names events) WriteFault about old new broke = print_broken tt broke
broken (merges names events) stop about old new broke = grind (arith, files_stay, draft_stays, reading_broken)
broken (writes name text) Memory about old new broke = grind (arith, draft_goes)
broken (writes name text) OutNotOpened about old new broke = grind (arith, draft_goes)
broken (writes name text) WriteFault about old new broke = grind (arith, draft_goes)
broken (prints text) WriteFault about old new broke = print_broken tt broke
broken (says item) Memory about old new broke = absurd broke
broken (prints text) Memory about old new broke = absurd broke
broken act Memory about old new broke = quiet refl broke
broken act stop about old new broke = absurd broke

-- The log, up to a stop that isn't its own.
pub log_until : (acts : List Act) (stop : Stop) (about : List ℕ) (old new : Devices) → (stop ≡ LogFault → ⊥)
    → PerformsActs acts (Some (ending stop about)) old new → new.log.failed ≡ old.log.failed
log_until [] stop about old new never run = absurd run
log_until (act ∷ acts) stop about old new never (inr here) = grind (arith, broken)
log_until (says item ∷ acts) stop about old new never (inl run) =
    log_until acts stop about (after_act (says item) old) new never run.1
log_until (act ∷ acts) stop about old new never (inl run) =
    log_until acts stop about (after_act act old) new never run.1
