use Rattle.cweb_store.proofs.Common.{◌∙◌, ap, map, sym, Name, NamesSoFar, occurrence_text}
use Rattle.cweb_store.proofs.KnownLemmas.{firsts-back}
use Rattle.cweb_store.proofs.known.KnownNames.close.Goals as goal

pub returns : goal.returns
returns c =
    let s = c.self.inside in
    sym (firsts-back (map occurrence_text s.occurrences.now) s.firsts.items)
    ∙ ap (λ (m : NamesSoFar). map (λ (n : Name). n.first) m.names) c.self.view_is
