use Rattle.cweb_store.proofs.Common.{◌∙◌, ap, sym, length, total, text_bytes}
use Rattle.cweb_store.proofs.NumberLemmas.{spellings-valid}
use Rattle.cweb_store.proofs.TokenStringLemmas.{bytes-total}
use Rattle.cweb_store.proofs.occurrences.Occurrences.text_bytes.Goals as goal

pub returns-clause-strings : goal.returns-clause-strings
returns-clause-strings c =
    let s = c.self.inside in
    rw (← c.self.view_is)
    (record {
      bytes = text_bytes s.strings;
      count = sym c.text_bytes.ensures.bytes;
      ranges = spellings-valid s.strings s.records.items c.self.invariant.within;
    })

pub returns-clause-once : goal.returns-clause-once
returns-clause-once c =
    let s = c.self.inside in
    rw (← c.self.view_is)
    (c.text_bytes.ensures.bytes ∙ bytes-total s.strings ∙ ap (total length) c.self.invariant.once)
