use Rattle.cweb_store.proofs.TableLemmas.{found-word}
use Rattle.cweb_store.proofs.InterningLemmas.{found-known}
use Rattle.cweb_store.proofs.string_table.StringTable.intern_word.Goals as goal

pub returns-in-Some-latest : goal.returns-in-Some-latest
returns-in-Some-latest c =
    let s = c.self.inside in
    let word = c.args.word.now in
    let latest = c.in-Some-latest.latest in
    rw (← c.self.view_is) (found-known s.strings s.table.words s.sorted.entries word latest.now.number
    (found-word s.strings s.table.words word c.in-Some-latest.ensures.0 latest.now c.self.invariant.interned.in_table
    c.in-Some-latest.ensures.1
    (c.is_short.ensures c.if-is_short.true s.strings
    (c.self.invariant.interned.in_table c.in-Some-latest.ensures.0 latest.now
    c.in-Some-latest.ensures.1))))
