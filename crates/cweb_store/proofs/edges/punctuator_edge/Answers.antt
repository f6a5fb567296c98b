use Rattle.cweb_store.proofs.Common.{sym}
use Rattle.cweb_store.proofs.EdgeLemmas.{edge-last}
use Rattle.cweb_store.proofs.edges.punctuator_edge.Goals as goal

pub returns : goal.returns
returns c =
    let bytes = c.args.string.now in
    rw (c.punctuator_edge_by.ensures, c.first_is_numeric.ensures, c.begins_with_operator.ensures, c.is_operator.ensures)
    (edge-last bytes c.in-Some.last.now (sym c.in-Some.ensures.value))
