use Rattle.cweb_lines.proofs.Common.{arith}
use Rattle.cweb_lines.proofs.MergeStateEvents.{files_in-if}
use Rattle.cweb_lines.proofs.merge_state.MergeState.report.Goals as goal

pub invariant_of-self-clause-faults_known : goal.invariant_of-self-clause-faults_known
invariant_of-self-clause-faults_known g c = grind (arith, files_in-if)
