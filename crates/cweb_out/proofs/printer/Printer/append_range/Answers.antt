use Rattle.cweb_out.proofs.Common.{arith}
use Rattle.cweb_out.proofs.OverlappingEnds.{whole_again}
use Rattle.cweb_out.proofs.printer.Printer.append_range.Goals as goal

pub invariant_of-buffer : goal.invariant_of-buffer
invariant_of-buffer c = grind (arith, whole_again)

pub returns-clause-moves : goal.returns-clause-moves
returns-clause-moves c = c.put_range-reached.ensures.moves

pub returns-clause-prints : goal.returns-clause-prints
returns-clause-prints c = grind (arith, whole_again)
