use Rattle.cweb_store.proofs.Common.{◌∷◌, []}
use Rattle.cweb_store.proofs.ByteIdLemmas.{byte_ids-string}
use Rattle.cweb_store.proofs.InterningLemmas.{interned-grow, string-keeps}
use Rattle.cweb_store.proofs.string_table.StringTable.add_string.Goals as goal

pub invariant_of-self-2 : goal.invariant_of-self-2
invariant_of-self-2 c =
    let s = c.self.inside in
    let string = c.args.string.now in
    rw c.in_ok-number.ensures.added
    (record {
      interned = interned-grow s.strings (string ∷ []) s.table.words s.sorted.entries c.self.invariant.interned;
      by_byte = byte_ids-string _ _ s.byte_ids.items string c.in_ok-number.number
          (string-keeps s.strings s.table.words s.sorted.entries string c.in_ok-number.number c.self.invariant.interned
          c.in_ok-number.ensures.number) c.self.invariant.by_byte;
    })

pub returns : goal.returns
returns c =
    let s = c.self.inside in
    rw (c.in_ok-number.ensures.added, ← c.self.view_is)
    (string-keeps s.strings s.table.words s.sorted.entries c.args.string.now c.in_ok-number.number
    c.self.invariant.interned c.in_ok-number.ensures.number)
