use Rattle.cweb_store.proofs.Common.{◌∙◌, drop, ap, length, arith, slice_get, strings_from}
use Rattle.cweb_store.proofs.EdgeLemmas.{known-at, known-count}
use Rattle.cweb_store.proofs.slices.StringSlices.edge.Goals as goal

pub bounds-self-inside-number : goal.bounds-self-inside-number
bounds-self-inside-number c =
    let s = c.self.inside in
    omega (
      arith,
      c.requires,
      ap length c.self.view_is,
      known-count (strings_from s.bytes.now 0 (drop 1 s.offsets.now)) s.edges.now c.self.invariant.stored_edges,
    )

pub returns : goal.returns
returns c = λ string there.
    let s = c.self.inside in
    known-at (strings_from s.bytes.now 0 (drop 1 s.offsets.now)) s.edges.now c.args.number string _
    c.self.invariant.stored_edges (ap (λ ts. slice_get ts c.args.number) c.self.view_is ∙ there)
