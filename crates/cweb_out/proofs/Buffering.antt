-- A sink and its buffer as one sink.
use Rattle.std.proofs.Common.{arith}
use Rattle.cweb_out.proofs.Common.{◌≡◌, ◌++◌, ◌∙◌, ap, sym, subst, [], List, ℕ, Result, SinkModel, Wrote, written}
use Rattle.cweb_files.specs.Sinks.{failed_once}
use Rattle.cweb_files.proofs.Appending.{written_none, written_on, wrote_then}
use Rattle.cweb_out.specs.inner.BufferedPrinting.{FlushesPrefix}

-- A flush leaves what sink and buffer have together unchanged.
pub moved_same : (before after : List ℕ) (old new : SinkModel) → new ≡ written before old → after ≡ []
    → written after new ≡ written before old
moved_same before after old new moved empty = grind (arith, written_none)

-- So does a flush that fails.
pub moved_prefix : (before after : List ℕ) {old new : SinkModel} → FlushesPrefix before after old new
    → written after new ≡ failed_once (written before old)
moved_prefix before after {old} flushed = grind (arith, written_on)

-- The first bytes went with those that were buffered, and then the rest is written.
pub after_flush : {B F : Type 0} (text first rest buffered moved after : List ℕ) (a b c : SinkModel) (r : Result B F)
    → text ≡ first ++ rest → moved ≡ buffered ++ first → b ≡ written moved a → after ≡ [] → Wrote rest b c r
    → Wrote text (written buffered a) (written after c) r
after_flush text first rest buffered moved after a b c r whole both gone empty wrote =
    let one : b ≡ written first (written buffered a) =
    gone ∙ ap (λ (t : List ℕ). written t a) both ∙ sym (written_on buffered first a) in
    let same : c ≡ written after c = written_none c ∙ ap (λ (t : List ℕ). written t c) (sym empty) in
    subst (λ (t : List ℕ). Wrote t (written buffered a) (written after c) r) (sym whole)
    (subst (λ (x : SinkModel). Wrote (first ++ rest) (written buffered a) x r) same
    (wrote_then first rest (written buffered a) b c r one wrote))
