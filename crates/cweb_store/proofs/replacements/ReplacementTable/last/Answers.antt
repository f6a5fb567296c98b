use Rattle.cweb_store.proofs.Common.{sym, ◌∙◌, arith, get_or_from_slice_get}
use Rattle.std.proofs.lemmas.Option.{slice_get_within}
use Rattle.cweb_store.proofs.StoredStringLemmas.{last-is, last-within}
use Rattle.cweb_store.proofs.replacements.ReplacementTable.last.Goals as goal

pub index-requires : goal.index-requires
index-requires c =
    let s = c.self.inside in
    let here = c.self.invariant.last c.args.byte (omega (arith, c.ranges.byte.fits)) in
    omega (arith, slice_get_within s.last_places.items c.args.byte _ here, s.last_places.ok.0)

pub string-requires : goal.string-requires
string-requires c =
    let s = c.self.inside in
    let here = c.self.invariant.last c.args.byte (omega (arith, c.ranges.byte.fits)) in
    let last = sym (get_or_from_slice_get s.last_places.items _ _ _ here) ∙ sym c.index.ensures in
    omega (
      arith,
      last-within c.args.byte s.bytes.items c.in-Some.number (last ∙ c.in-Some.is),
      c.self.invariant.count,
    )

pub returns-in_default : goal.returns-in_default
returns-in_default c = grind (arith, get_or_from_slice_get, last-is)

pub returns : goal.returns
returns c = grind (arith, get_or_from_slice_get, last-is)
