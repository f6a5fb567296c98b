use Rattle.cweb_tools.proofs.Common.{◌≡◌, ◌∙◌, ℕ, List, [], map, Some, slice_get, option_map, get_or_from_slice_get, slice_get-map, Occurrence, slice_index_or}
use Rattle.cweb_tools.proofs.faults.name_fault_chunk.Goals as goal

name_bytes : (os : List Occurrence) (n : ℕ) (text : List ℕ)
    → option_map (λ (o : Occurrence). o.text) (slice_get os n) ≡ Some text
    → slice_index_or (map (λ (o : Occurrence). o.text) os) n [] ≡ text
name_bytes os n text is = get_or_from_slice_get
    (map (λ (o : Occurrence). o.text) os) n text [] (slice_get-map (λ (o : Occurrence). o.text) os n ∙ is)

pub returns-in-Ambiguous : goal.returns-in-Ambiguous
returns-in-Ambiguous c = rw (name_bytes c.args.store.now.occurrences
    c.args.fault.occurrence.0 _ c.occurrence_text-name.ensures) (rw c.in-Ambiguous.is c.fault_chunk.ensures)

pub returns-in-NeverFull : goal.returns-in-NeverFull
returns-in-NeverFull c = rw (name_bytes c.args.store.now.occurrences c.args.fault.occurrence.0
    _ c.occurrence_text-name.ensures) (rw c.in-NeverFull.is c.fault_chunk-in-NeverFull.ensures)

pub returns-in-PrefixOfAnother : goal.returns-in-PrefixOfAnother
returns-in-PrefixOfAnother c = rw (name_bytes c.args.store.now.occurrences c.args.fault.occurrence.0
    _ c.occurrence_text-name.ensures) (rw c.in-PrefixOfAnother.is c.fault_chunk-in-PrefixOfAnother.ensures)

pub returns-in-NotPresent : goal.returns-in-NotPresent
returns-in-NotPresent c = rw (name_bytes c.args.store.now.occurrences c.args.fault.occurrence.0
    _ c.occurrence_text-name.ensures) (rw c.in-NotPresent.is c.fault_chunk-in-NotPresent.ensures)
