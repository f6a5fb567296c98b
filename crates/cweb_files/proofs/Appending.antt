-- What several calls append to a sink.
use Rattle.std.proofs.Common.{arith}
use Rattle.std.proofs.Common.{◌≡◌, ◌++◌, List, [], ℕ, refl, sym, ◌∙◌, ap, subst}
use Rattle.std.specs.Prelude.{IsErr, Option, Some, None, Result, Ok, Err}
use Rattle.std.proofs.lemmas.List.{append-nil, append_assoc}
use Rattle.cweb_files.specs.Sinks.{FailsWithin, SinkContents, SinkModel, appended, failed_once, written}
use Rattle.cweb_files.specs.surface.Writes.{Wrote}

-- Consecutive texts.
pub appended_on : (a b : List ℕ) (now : Option SinkContents) → appended b (appended a now) ≡ appended (a ++ b) now
appended_on a b None = refl
appended_on a b (Some now) = λ i. Some (record now { bytes = append_assoc now.bytes a b i })

pub appended_none : (now : Option SinkContents) → appended [] now ≡ now
appended_none None = refl
appended_none (Some now) = λ i. Some (record now { bytes = append-nil now.bytes i })

pub written_none : (sink : SinkModel) → sink ≡ written [] sink
written_none sink = λ i. record sink { contents = sym (appended_none sink.contents) i }

pub written_on : (a b : List ℕ) (old : SinkModel) → written b (written a old) ≡ written (a ++ b) old
written_on a b old = λ i. record old { contents = appended_on a b old.contents i }

pub written_then : (a b : List ℕ) (old : SinkModel) {mid new : SinkModel} → mid ≡ written a old → new ≡ written b mid
    → new ≡ written (a ++ b) old
written_then a b old first then = then ∙ ap (written b) first ∙ written_on a b old

-- A text was written, and a write failed within the next one.
pub fails_then : (a : List ℕ) {b : List ℕ} {old mid new : SinkModel} → mid ≡ written a old → FailsWithin b mid new
    → FailsWithin (a ++ b) old new
fails_then a {b} {old} first fails = grind (arith, append_assoc, appended_on)

-- More would have been written after a fault.
pub fails_in : {a : List ℕ} (b : List ℕ) {old new : SinkModel} → FailsWithin a old new → FailsWithin (a ++ b) old new
fails_in b fails = grind (arith, append_assoc)

-- A write failed at once.
pub fails_at_once : (text : List ℕ) {old new : SinkModel} → new ≡ failed_once old → FailsWithin text old new
fails_at_once text {old} is = grind (arith, appended_none)

-- These bytes were written, and then more or a prefix of them.
pub wrote_then : {B F : Type 0} (first more : List ℕ) (a b c : SinkModel) (r : Result B F)
    → b ≡ written first a → Wrote more b c r → Wrote (first ++ more) a c r
wrote_then first more a b c (Ok x) one other = written_then first more a one other
wrote_then first more a b c (Err e) one other = fails_then first one other

-- A fault left a prefix of these bytes, and the rest doesn't follow.
pub wrote_until : {B F : Type 0} (text first rest : List ℕ) (a b : SinkModel) (r : Result B F)
    → IsErr r → text ≡ first ++ rest → FailsWithin first a b → Wrote text a b r
wrote_until text first rest a b (Ok x) is whole fails = absurd (cc)
wrote_until text first rest a b (Err e) is whole fails = grind (arith, fails_in)

-- All was written.
pub wrote_as : {text other : List ℕ} (a : SinkModel) {b : SinkModel} → text ≡ other → b ≡ written text a
    → b ≡ written other a
wrote_as a same wrote = wrote ∙ ap (λ (t : List ℕ). written t a) same

pub wrote_same : {B F : Type 0} (text other : List ℕ) (a b : SinkModel) (r : Result B F)
    → text ≡ other → Wrote text a b r → Wrote other a b r
wrote_same text other a b r = subst (λ (t : List ℕ). Wrote t a b r)
