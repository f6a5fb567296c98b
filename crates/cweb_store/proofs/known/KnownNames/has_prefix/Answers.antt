use Rattle.cweb_store.proofs.Common.{ap, ◌∙◌, list_any, spellings, is_prefix_of_another, names_at, NamesSoFar, map, occurrence_text}
use Rattle.cweb_store.proofs.NeighbourLemmas.{next-prefix}
use Rattle.cweb_store.proofs.known.KnownNames.has_prefix.Goals as goal

pub returns : goal.returns
returns c =
    let s = c.self.inside in
    c.has_prefix.ensures.value
    ∙ next-prefix s.sorted.entries (names_at (map occurrence_text s.occurrences.now) s.firsts.items) c.self.invariant.sorted
    c.has_prefix.ensures.ordered
    ∙ ap (λ (m : NamesSoFar). list_any (is_prefix_of_another m.names) (spellings m.names)) c.self.view_is
