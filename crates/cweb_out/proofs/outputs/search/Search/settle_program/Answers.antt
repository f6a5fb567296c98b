use Rattle.cweb_out.proofs.Common.{refl, Stored, suffix, FindsUnranked}
use Rattle.cweb_out.proofs.ScannedUses.{looked-more, looked-on, looked-all}
use Rattle.cweb_out.proofs.Searches.{program-endless}
use Rattle.cweb_out.proofs.outputs.search.Search.settle_program.Goals as goal

pub returns-in-Some-2-clause-settles : goal.returns-in-Some-2-clause-settles
returns-in-Some-2-clause-settles c =
    let w : Stored = c.args.store.now in
    let i = c.names.invariant in
    let meets : FindsUnranked w c.names.self.marks.items (suffix w c.names.text) c.in-Some.name
    (suffix w c.next_unranked.new.text) = rw c.as_slice.ensures.value at c.in-Some.ensures.meets in
    let settles = rw c.in-Some-2.is at c.in_ok-cycle.ensures.settles in
    program-endless (looked-more {new = c.next_unranked.new.text} i.idle.fits i.looked meets) settles

pub names-preserved : goal.names-preserved
names-preserved c =
    let w : Stored = c.args.store.now in
    let i = c.names.invariant in
    let meets : FindsUnranked w c.names.self.marks.items (suffix w c.names.text) c.in-Some.name
    (suffix w c.next_unranked.new.text) = rw c.as_slice.ensures.value at c.in-Some.ensures.meets in
    let settles = rw c.in_default-2.is at c.in_ok-cycle.ensures.settles in
    record {
      idle = c.in_ok-cycle.ensures.idle c.in_default-2.is;
      within = c.next_unranked.ensures.within;
      looked = looked-on c.in-Some.name settles
          (looked-more i.idle.fits i.looked meets);
    }

pub returns-clause-settles : goal.returns-clause-settles
returns-clause-settles c =
    looked-all c.names.invariant.idle.fits
    c.names.invariant.looked (rw c.as_slice.ensures.value at (c.in_default.ensures.none refl))
