use Rattle.cweb_store.proofs.Common.{drop, length, ◌∙◌, ap, text_bytes}
use Rattle.cweb_store.proofs.StringListLemmas.{bytes-count}
use Rattle.cweb_store.proofs.strings.StringList.text_bytes.Goals as goal

pub returns-clause-bytes : goal.returns-clause-bytes
returns-clause-bytes c =
    let s = c.self.inside in
    c.len.ensures ∙ s.bytes.ok.0 ∙ bytes-count s.bytes.items (drop 1 s.offsets.items) c.self.invariant.ends_at
    ∙ ap (λ ts. length (text_bytes ts)) c.self.view_is
