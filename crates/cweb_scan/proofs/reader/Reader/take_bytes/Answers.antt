use Rattle.std.proofs.Common.{arith}
use Rattle.std.proofs.lemmas.Grind.{common_steps}
use Rattle.cweb_scan.proofs.LineSteps.{prefix_line}
use Rattle.cweb_scan.proofs.reader.Reader.take_bytes.Goals as goal

pub invariant_of-take_step-clause-line : goal.invariant_of-take_step-clause-line
invariant_of-take_step-clause-line c =
    prefix_line c.args.line.now c.turns.rest.now c.args.self.now c.turns.self c.requires.clean c.turns.invariant

pub turns-preserved : goal.turns-preserved
turns-preserved c = grind (arith, common_steps)
