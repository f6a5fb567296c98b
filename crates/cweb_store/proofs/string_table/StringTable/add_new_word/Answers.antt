use Rattle.cweb_store.proofs.Common.{arith, InternsWord, table_model}
use Rattle.cweb_store.proofs.ByteIdLemmas.{byte_ids-word}
use Rattle.cweb_store.proofs.InterningLemmas.{table-interned, table-keeps}
use Rattle.cweb_store.proofs.string_table.StringTable.add_new_word.Goals as goal

pub invariant_of-self-then-push : goal.invariant_of-self-then-push
invariant_of-self-then-push c =
    let s = c.self.inside in
    let word = c.args.word.now in
    let number = c.in_ok-number.number in
    let keeps : InternsWord (table_model s.strings s.table.words s.sorted.entries) word number
    (table_model c.add_interned.new.self c.push.new.self.words s.sorted.entries) =
    grind (
      arith,
      table-keeps s.strings s.table.words c.push.new.self.words s.sorted.entries word number c.self.invariant.interned,
      c.if-push.ensures,
      c.in_ok-number.ensures,
      c.requires.key,
      c.self.view_is,
    ) in
    record {
      interned = grind (
        arith,
        table-interned s.strings s.table.words c.push.new.self.words s.sorted.entries word number c.self.invariant.interned
            (λ i. (c.type_inv.word i).fits),
        c.if-push.ensures,
        c.in_ok-number.ensures,
        c.requires.key,
      );
      by_byte = byte_ids-word (table_model s.strings s.table.words s.sorted.entries)
          (table_model c.add_interned.new.self c.push.new.self.words s.sorted.entries) s.byte_ids.items word number keeps
          c.self.invariant.by_byte;
    }

pub returns-then-push : goal.returns-then-push
returns-then-push c =
    let s = c.self.inside in
    grind (
      arith,
      table-keeps s.strings s.table.words c.push.new.self.words s.sorted.entries c.args.word.now c.in_ok-number.number
          c.self.invariant.interned,
      c.if-push.ensures,
      c.in_ok-number.ensures,
      c.requires.key,
      c.self.view_is,
    )
