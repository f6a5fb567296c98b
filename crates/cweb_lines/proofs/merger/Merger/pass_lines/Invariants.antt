use Rattle.cweb_lines.proofs.Common.{◌-◌, AppendsPassedLines}
use Rattle.cweb_lines.proofs.merger.Merger.pass_lines.Given as goal

abbrev pub invariant-lines : goal.invariant-lines
invariant-lines g l = record {
  passes : AppendsPassedLines l.room l.fn.self.run l.self.run l.fn.buffer.items l.buffer.items;
}

abbrev pub decreases-lines : goal.decreases-lines
decreases-lines g l = 16777216 - l.self.run.limits.lines
