use Rattle.cweb_store.proofs.Common.{◌<◌, ◌+◌, ap, length, length-map, arith, too_many}
use Rattle.cweb_store.proofs.NumberLemmas.{added-is, added-are, strings-few}
use Rattle.cweb_store.specs.declared.occurrences.OccurrenceRecord.{OccurrenceRecord}
use Rattle.cweb_store.specs.inner.Known.{occurrence_at}
use Rattle.cweb_store.proofs.table.NameTable.add.Goals as goal

pub intern_spelling-requires : goal.intern_spelling-requires
intern_spelling-requires c =
    let s = c.self.inside in
    omega (
      arith,
      c.requires,
      ap length c.self.view_is,
      length-map s.records.items (occurrence_at s.strings.strings),
      strings-few s.strings.strings s.records.items c.self.invariant.table,
    )

pub invariant_of-self-2 : goal.invariant_of-self-2
invariant_of-self-2 c =
    let s = c.self.inside in
    let spelling = c.in_ok-spelling.spelling in
    let r : OccurrenceRecord = record { spelling = spelling; how = c.args.how; is_file = c.args.is_file } in
    let few : length s.records.items + 1 < too_many =
    omega (
      arith,
      c.requires,
      ap length c.self.view_is,
      length-map s.records.items (occurrence_at s.strings.strings),
    ) in
    rw (c.push_reserved.ensures.items, c.in_ok-reserve.ensures.items, c.of.ensures)
    (added-are s.strings c.intern_spelling.new.self s.records.items c.args.name.now r c.self.invariant
    c.in_ok-spelling.ensures few)

pub returns-clause-number : goal.returns-clause-number
returns-clause-number c =
    let s = c.self.inside in
    omega (
      arith,
      c.len-number.ensures,
      ap length c.in_ok-reserve.ensures.items,
      ap length c.self.view_is,
      length-map s.records.items (occurrence_at s.strings.strings),
    )

pub returns-clause-added : goal.returns-clause-added
returns-clause-added c =
    let s = c.self.inside in
    let spelling = c.in_ok-spelling.spelling in
    let r : OccurrenceRecord = record { spelling = spelling; how = c.args.how; is_file = c.args.is_file } in
    rw (c.push_reserved.ensures.items, c.in_ok-reserve.ensures.items, c.of.ensures, ← c.self.view_is)
    (added-is s.strings c.intern_spelling.new.self s.records.items c.args.name.now r c.self.invariant
    c.in_ok-spelling.ensures)
