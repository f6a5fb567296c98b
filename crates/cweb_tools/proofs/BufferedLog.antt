-- Consecutive log output, buffered and written, and the chunks of a text, joined and by index.
use Rattle.cweb_tools.proofs.Common.{◌≡◌, ◌<◌, ◌≤◌, ◌+◌, ℕ, suc, List, [], ◌++◌, length, take, drop, get_or, sym, ◌∙◌, ap, append_assoc, append-nil, subst, flat_map, take_all, Result, Ok, Err, IsErr, FailsWithin, Logs, logged, log_failed, Buffers, AppendsToLog, SinkModel, Wrote, written, ◌∷◌, map, refl, arith, flat_map-append, flat_map-map, codes, LogItem, line, star, cycle_step, items_of, chunks_of}
use Rattle.cweb_files.proofs.Appending.{fails_in, fails_then, written_none, written_then}
use Rattle.cweb_files.proofs.JoinedParts.{flat_at, flat_more}
use Prim.Native.Nat.{zero}
use Rattle.cweb_tools.specs.declared.log_text.LogText.{LogText}
use Rattle.cweb_tools.specs.declared.log_text.LogText.TheVariants.{Cycle, Line, NameFaults, ScanFaults, SourceFaults, Starred}

-- Nothing was appended yet.
pub buffers_nothing : {held now : List ℕ} {before mid : SinkModel} → mid ≡ before → now ≡ held
    → Buffers [] before mid held now
buffers_nothing {held} {before = before} same is =
    record { done = []; whole = append-nil held ∙ sym is; is = same ∙ written_none before }

pub count_kept : {text held now : List ℕ} {before after : SinkModel} → Buffers text before after held now
    → after.failed ≡ before.failed
count_kept came = ap (λ (log : SinkModel). log.failed) came.is

-- More was appended.
joins : {old : List ℕ} (more : List ℕ) {before mid : SinkModel} {held between : List ℕ}
    (came : Buffers old before mid held between) → held ++ (old ++ more) ≡ came.done ++ (between ++ more)
joins {old} more {held = held} {between = between} came = sym (append_assoc held old more)
    ∙ ap (λ (t : List ℕ). t ++ more) came.whole ∙ append_assoc came.done between more

pub buffered_on : {old more : List ℕ} {before mid after : SinkModel} {held between now : List ℕ}
    → Buffers old before mid held between → Buffers more mid after between now
    → Buffers (old ++ more) before after held now
buffered_on {more = more} {before = before} {now = now} came comes = record {
  done = came.done ++ comes.done;
  whole = joins more came ∙ ap (λ (t : List ℕ). came.done ++ t) comes.whole
      ∙ sym (append_assoc came.done comes.done now);
  is = written_then came.done comes.done before came.is comes.is;
}

-- A write failed within what was appended then.
fails_on : {old : List ℕ} (more : List ℕ) {before mid after : SinkModel} {held between : List ℕ}
    → Buffers old before mid held between → FailsWithin (between ++ more) mid after
    → FailsWithin (held ++ (old ++ more)) before after
fails_on more came fails = rw (joins more came) (fails_then came.done came.is fails)

-- The pending bytes were written, and then some more.
pub passed : {A E : Type 0} (r : Result A E) (held bytes now : List ℕ) (before mid after : SinkModel)
    → mid ≡ written held before → now ≡ [] → Wrote bytes mid after r → AppendsToLog bytes before after held now r
passed (Ok x) held bytes now before mid after is none wrote = record {
  done = held ++ bytes;
  whole = sym (append-nil (held ++ bytes)) ∙ ap (λ (t : List ℕ). (held ++ bytes) ++ t) (sym none);
  is = written_then held bytes before is wrote;
}
passed (Err e) held bytes now before mid after is none fails = fails_then held is fails

-- A fault at an element is a fault of the list.
pub fails_at : {X : Type 0} (f : X → List ℕ) (xs : List X) (i : ℕ) (d : X) {before mid after : SinkModel}
    {held between : List ℕ} → i < length xs → Buffers (flat_map f (take i xs)) before mid held between
    → FailsWithin (between ++ f (get_or xs i d)) mid after → FailsWithin (held ++ flat_map f xs) before after
fails_at f xs i d {before} {after = after} {held = held} lt came fails =
    let first = flat_map f (take i xs) ++ f (get_or xs i d) in
    let rest = flat_map f (drop (suc i) xs) in
    subst (λ (t : List ℕ). FailsWithin t before after)
    (append_assoc held first rest ∙ ap (λ (t : List ℕ). held ++ t) (sym (flat_at f xs i d lt)))
    (fails_in rest (fails_on (f (get_or xs i d)) came fails))

pub fails_if : {A E : Type 0} (r : Result A E) (more held now : List ℕ) {before after : SinkModel} → IsErr r
    → FailsWithin (held ++ more) before after → AppendsToLog more before after held now r
fails_if (Ok x) more held now is fails = absurd (cc)
fails_if (Err e) more held now is fails = fails

-- One more element was appended.
pub buffers_next : {X : Type 0} (f : X → List ℕ) (xs : List X) (i : ℕ) (d : X) {before mid after : SinkModel}
    {held between now : List ℕ} → i < length xs → Buffers (flat_map f (take i xs)) before mid held between
    → Buffers (f (get_or xs i d)) mid after between now → Buffers (flat_map f (take (i + 1) xs)) before after held now
buffers_next f xs i d lt came comes = rw (sym (flat_more f xs i d lt)) (buffered_on came comes)

-- All elements were appended.
pub buffers_all : {X : Type 0} (f : X → List ℕ) (xs : List X) (i : ℕ) {before after : SinkModel} {held now : List ℕ}
    → length xs ≤ i → Buffers (flat_map f (take i xs)) before after held now
    → Buffers (flat_map f xs) before after held now
buffers_all f xs i le came = rw take_all at came

-- Nothing was buffered before, and the buffer is flushed at the end.
pub writes_all : {B F : Type 0} (r : Result B F) {text : List ℕ} {before mid : SinkModel} (after : SinkModel)
    {held : List ℕ}
    → Buffers text before mid [] held → Wrote held mid after r → Wrote text before after r
writes_all (Ok x) {before = before} after {held = held} came wrote =
    rw came.whole (written_then came.done held before came.is wrote)
writes_all (Err e) after came fails = rw came.whole (fails_then came.done came.is fails)

pub writes_prefix : {B F : Type 0} (r : Result B F) {text : List ℕ} {before after : SinkModel}
    → FailsWithin text before after → IsErr r → Wrote text before after r
writes_prefix (Ok x) fails is = absurd (cc)
writes_prefix (Err e) fails is = fails

-- Writing and logging have the same effect.
pub logs_by : {A E : Type 0} (r : Result A E) (text : List ℕ) (before after : SinkModel)
    → Wrote text before after r → Logs text before after
logs_by (Ok x) text before after wrote = logged wrote
logs_by (Err e) text before after fails = log_failed fails

abbrev pub bytes : List ℕ → List ℕ
bytes chunk = chunk

abbrev pub joined : List (List ℕ) → List ℕ
joined chunks = flat_map bytes chunks

-- The chunks of a line of a list.
listed : {X : Type 0} (f : X → List ℕ) (xs : List X)
    → joined (map f xs ++ codes "\n" ∷ []) ≡ (flat_map f xs ++ codes "\n") ++ []
listed f xs = flat_map-append bytes (map f xs) (codes "\n" ∷ [])
    ∙ ap (λ (t : List ℕ). t ++ codes "\n") (flat_map-map bytes f xs) ∙ sym (append-nil (flat_map f xs ++ codes "\n"))

lines : (items : List LogItem) → joined (map line items) ≡ flat_map line items
lines items = flat_map-map bytes line items

-- All chunks are the lines of the items.
pub joined_is : (text : LogText) → joined (chunks_of text) ≡ flat_map line (items_of text)
joined_is (Starred numbers) = listed star numbers.now
joined_is (Cycle store names) = ap (λ (t : List ℕ). codes "! Cycle:" ++ t) (listed (cycle_step store.now) names.now)
joined_is (Line one) = lines (items_of (Line one))
joined_is (SourceFaults names faults) = lines (items_of (SourceFaults names faults))
joined_is (ScanFaults names faults) = lines (items_of (ScanFaults names faults))
joined_is (NameFaults store) = lines (items_of (NameFaults store))

-- A chunk that is the line of a fault.
pub at_lines : {X : Type 0} (f : X → LogItem) (xs : List X) (i : ℕ) (d : X) → i < length xs
    → get_or (map line (map f xs)) i [] ≡ line (f (get_or xs i d))
at_lines f [] i d lt = absurd (omega (arith, lt))
at_lines f (x ∷ xs) zero d lt = refl
at_lines f (x ∷ xs) (suc i) d lt = at_lines f xs i d (omega (arith, lt))
