use Rattle.cweb_store.proofs.Common.{drop, length, ◌∙◌, ap, strings_from}
use Rattle.cweb_store.proofs.EdgeLemmas.{known-count}
use Rattle.cweb_store.proofs.strings.StringList.len.Goals as goal

pub returns : goal.returns
returns c =
    let s = c.self.inside in
    c.len.ensures ∙ s.edges.ok.0
    ∙ known-count (strings_from s.bytes.items 0 (drop 1 s.offsets.items)) s.edges.items c.self.invariant.stored_edges
    ∙ ap length c.self.view_is
