use Rattle.cweb_store.proofs.Common.{arith}
use Rattle.cweb_store.proofs.StringListLemmas.{place_is}
use Rattle.cweb_store.proofs.slices.StringSlices.string.Goals as goal

pub bounds-self-inside-number : goal.bounds-self-inside-number
bounds-self-inside-number c =
    let s = c.self.inside in
    let place = place_is s.bytes.now s.offsets.now s.edges.now c.args.number c.self.invariant
    (rw c.self.view_is c.requires) in
    omega (arith, place.next)

pub offset_bounds-self-inside-number : goal.offset_bounds-self-inside-number
offset_bounds-self-inside-number c =
    let s = c.self.inside in
    let place = place_is s.bytes.now s.offsets.now s.edges.now c.args.number c.self.invariant
    (rw c.self.view_is c.requires) in
    omega (arith, place.next, c.self.told.1.1)
