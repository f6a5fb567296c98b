use Rattle.cweb_store.proofs.Common.{◌∙◌, sym, text_bytes}
use Rattle.cweb_store.proofs.StoredStringLemmas.{replacements-valid, replacements-total}
use Rattle.cweb_store.proofs.TokenStringLemmas.{strings-valid, bytes-total}
use Rattle.cweb_store.proofs.replacements.ReplacementTable.text_bytes.Goals as goal

pub returns-clause-strings : goal.returns-clause-strings
returns-clause-strings c =
    let s = c.self.inside in
    rw (← c.self.view_is)
    (record {
      bytes = text_bytes s.strings;
      count = sym c.text_bytes.ensures.bytes;
      ranges = replacements-valid (text_bytes s.strings) s.strings s.bytes.items (strings-valid s.strings);
    })

pub returns-clause-bytes : goal.returns-clause-bytes
returns-clause-bytes c =
    let s = c.self.inside in
    rw (← c.self.view_is)
    (c.text_bytes.ensures.bytes ∙ bytes-total s.strings
    ∙ replacements-total s.strings s.bytes.items c.self.invariant.count)
