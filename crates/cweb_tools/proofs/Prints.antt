-- Tokens of an expander that are printed in order.
use Rattle.cweb_tools.proofs.Common.{◌≡◌, ℕ, List, [], ◌∷◌, length, subst, append_assoc, append-nil, All, OnErr, OnOk, Option, Some, None, refl, option_map, Result, Ok, Err, Token, IsMarkBelow, left, PrintsPrefix, Moves, PrintsToken, left_in_printer, setting_of, MarkFileIsNamed, setting, file, Expander, Printer, PrintsSoFar, SinkContents, SinkModel, StaysReady, changed, failing, left_in, with_printed, without_draft, written, arith}
use Rattle.cweb_files.specs.Sinks.{FailsWithin}
use Rattle.cweb_files.proofs.Appending.{fails_then, written_none, written_on, written_then}
use Rattle.cweb_out.specs.surface.Printed.{EndsFile}
use Rattle.cweb_tools.proofs.ReadyExpanders.{all_back, mark_named, stays_on}

-- The files of the remaining marks have names if those of all marks do.
pub next_named : {files : List (List ℕ)} {first now : Expander} {printer : Printer} {old new : SinkModel}
    {buffer : List ℕ} (so_far : PrintsSoFar files first now printer old new buffer) (t : Token) (rest : List Token)
    → All (IsMarkBelow (length files)) (left_in first) → left_in now ≡ t ∷ rest → MarkFileIsNamed (setting_of printer) t
next_named {files = files} {first = first} {now = now} so_far t rest all yields =
    let later : All (IsMarkBelow (length files)) (left_in now) = all_back (IsMarkBelow (length files)) so_far.done
    (left_in now) (subst (All (IsMarkBelow (length files))) so_far.whole all) in
    let here : IsMarkBelow (length files) t = grind arith in
    rw so_far.setting_is (mark_named (setting first.store.now files) t here)

-- More tokens were printed into the buffer.
pub prints_prefix : {files : List (List ℕ)} {first mid : Expander} {printer printer' : Printer} {old new : SinkModel}
    {buffer buffer' : List ℕ} {now : Expander} → PrintsSoFar files first mid printer old new buffer
    → StaysReady mid now → setting_of printer' ≡ setting_of printer
    → PrintsPrefix printer printer' (left_in mid) (left mid.store.now now.frames.items) buffer buffer'
    → PrintsSoFar files first now printer' old new buffer'
prints_prefix so_far ready same prefix = grind (arith, stays_on, append_assoc, written_then, written_on)

-- One more token was printed.
pub prints_more : {A E : Type 0} (x : A) {files : List (List ℕ)} {first : Expander} {mid now : Expander} {printer
    printer' : Printer}
    {old new : SinkModel} (new' : SinkModel) {buffer : List ℕ} (buffer' : List ℕ) (t : Token)
    → PrintsSoFar files first mid printer old new buffer → StaysReady mid now
    → left_in mid ≡ t ∷ left mid.store.now now.frames.items → setting_of printer' ≡ setting_of printer
    → Moves (left_in_printer printer) t (left_in_printer printer')
    → PrintsToken {E = E} printer t (written buffer new) (written buffer' new') (Ok x)
    → PrintsSoFar files first now printer' old new' buffer'
prints_more x new' buffer' t so_far ready yields same moves prints = grind (arith, stays_on, append_assoc, written_then)

-- Nothing remains, and the last line was ended.
pub prints_all : {A E : Type 0} {files : List (List ℕ)} {first now : Expander} {printer : Printer}
    {old new : SinkModel} {buffer : List ℕ} (new' : SinkModel) (buffer' : List ℕ) (r : Result A E)
    → PrintsSoFar files first now printer old new buffer → left_in now ≡ []
    → EndsFile printer (written buffer new) (written buffer' new') r → OnOk r (buffer' ≡ [])
    → OnOk r (new' ≡ written (file (setting first.store.now files) (left_in first)) old)
prints_all new' buffer' (Ok x) so_far none ends empty = grind (arith, written_none, written_then, append-nil)
prints_all new' buffer' (Err e) so_far none ends empty = tt

-- Without its draft, it doesn't matter what was written to it.
drafts_gone : (a b : List ℕ) (now now' : Option SinkContents)
    → option_map (with_printed a) now' ≡ option_map (with_printed b) now
    → option_map without_draft now' ≡ option_map without_draft now
drafts_gone a b None None is = refl
drafts_gone a b None (Some now') is = absurd (cc)
drafts_gone a b (Some now) None is = absurd (cc)
drafts_gone a b (Some now) (Some now') is = grind arith

-- A write failed.
pub prints_until : {files : List (List ℕ)} {first now : Expander} {printer : Printer} {old new : SinkModel}
    {buffer : List ℕ} (new' : SinkModel) (buffer' : List ℕ) {bytes : List ℕ}
    → PrintsSoFar files first now printer old new buffer
    → FailsWithin bytes (written buffer new) (written buffer' new')
    → changed without_draft new' ≡ failing without_draft old
prints_until new' buffer' so_far fail = grind (arith, fails_then, drafts_gone)

pub on_err : {A E : Type 0} (r : Result A E) {P : Type 0} → P → OnErr r P
on_err (Ok x) holds = tt
on_err (Err e) holds = holds

pub end_failed : {A E : Type 0} {files : List (List ℕ)} {first now : Expander} {printer : Printer}
    {old new : SinkModel} {buffer : List ℕ} (new' : SinkModel) (buffer' : List ℕ) (r : Result A E)
    → PrintsSoFar files first now printer old new buffer
    → EndsFile printer (written buffer new) (written buffer' new') r
    → OnErr r (changed without_draft new' ≡ failing without_draft old)
end_failed new' buffer' (Ok x) so_far ends = tt
end_failed new' buffer' (Err e) so_far ends = prints_until new' buffer' so_far ends.wrote
