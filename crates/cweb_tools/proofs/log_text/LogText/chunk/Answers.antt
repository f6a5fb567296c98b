use Rattle.cweb_tools.proofs.Common.{◌<◌, ◌∙◌, ℕ, List, length, map, sym, arith, opened_file_names, LogItem, line, source_item, scan_item, name_item}
use Rattle.std.proofs.lemmas.List.{length-map}
use Rattle.cweb_tools.proofs.BufferedLog.{at_lines}
use Rattle.cweb_tools.proofs.log_text.LogText.chunk.Goals as goal

within : {X : Type 0} (f : X → LogItem) (xs : List X) (i : ℕ) → i < length (map line (map f xs)) → i < length xs
within f xs i lt = omega (arith, lt, length-map xs f, length-map (map f xs) line)

pub returns-in-SourceFaults : goal.returns-in-SourceFaults
returns-in-SourceFaults c =
    let item = source_item (opened_file_names c.in-SourceFaults.names.now) in
    rw c.in-SourceFaults.is (c.source_fault_chunk.ensures ∙ sym (at_lines item c.in-SourceFaults.faults.now
    c.args.index _ (within item c.in-SourceFaults.faults.now c.args.index (rw c.in-SourceFaults.is at c.requires))))

pub returns-in-ScanFaults : goal.returns-in-ScanFaults
returns-in-ScanFaults c =
    let item = scan_item (opened_file_names c.in-ScanFaults.names.now) in
    rw c.in-ScanFaults.is (c.scan_fault_chunk.ensures ∙ sym (at_lines item c.in-ScanFaults.faults.now
    c.args.index _ (within item c.in-ScanFaults.faults.now c.args.index (rw c.in-ScanFaults.is at c.requires))))

pub returns-in-NameFaults : goal.returns-in-NameFaults
returns-in-NameFaults c =
    let item = name_item c.in-NameFaults.store.now.occurrences in
    rw c.in-NameFaults.is (rw (sym c.name_faults.ensures.faults) (c.name_fault_chunk.ensures
    ∙ sym (at_lines item c.name_faults.result.now c.args.index _
    (within item c.name_faults.result.now c.args.index
    (rw (sym c.name_faults.ensures.faults) at (rw c.in-NameFaults.is at c.requires))))))
