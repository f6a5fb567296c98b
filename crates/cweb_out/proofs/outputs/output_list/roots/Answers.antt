use Rattle.cweb_out.proofs.Common.{arith}
use Rattle.std.proofs.lemmas.List.{take_all}
use Rattle.cweb_out.proofs.FileNames.{outputs-few}
use Rattle.cweb_out.proofs.outputs.output_list.roots.Goals as goal

pub returns-clause-few : goal.returns-clause-few
returns-clause-few c = grind (arith, take_all, outputs-few)
