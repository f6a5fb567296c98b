use Rattle.cweb_scan.proofs.Common.{arith}
use Rattle.cweb_lines.proofs.Lookahead.{borrows_then}
use Rattle.cweb_scan.proofs.Aheads.{read_taken}
use Rattle.cweb_scan.proofs.scanning.take_borrowed.Goals as goal

pub stretches-preserved : goal.stretches-preserved
stretches-preserved g c =
    let inv = c.stretches.invariant in
    let read = c.in_ok-ahead.ensures in
    let takes = c.take_ahead.ensures read.0 read.1.comes in
    record {
      borrowed = borrows_then _ c.stretches.merger.run _ inv.borrowed takes.borrows;
      taken = λ shelf first all taken.
          read_taken c.stretches.merger.run _ read.0 shelf first all _ _ c.stretches.reader _ takes read.1.read
          (λ seen it. takes.emitted.yields seen.texts seen.left) (inv.taken shelf first all taken);
      room = omega (arith, read.1.read.adds, inv.room, takes.bytes, takes.count);
    }

pub stretches-smaller : goal.stretches-smaller
stretches-smaller g c = grind arith
