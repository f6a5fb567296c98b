use Rattle.cweb_lines.proofs.Common.{arith}
use Rattle.cweb_lines.specs.inner.OpenSources.{gaps_from, maximum_of}
use Rattle.cweb_lines.proofs.open_source.stack.Stack.new.Goals as goal

pub returns-clause-numbers : goal.returns-clause-numbers
unfolding maximum_of
returns-clause-numbers g c = omega arith

pub returns-clause-files : goal.returns-clause-files
unfolding maximum_of
returns-clause-files g c = omega arith

pub returns-clause-deep : goal.returns-clause-deep
unfolding gaps_from
returns-clause-deep g c = λ deep. omega (arith, deep)
