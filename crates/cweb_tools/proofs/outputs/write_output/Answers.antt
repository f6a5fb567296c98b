use Rattle.cweb_tools.proofs.Doing.{does_about, does_in, does_on}
use Rattle.cweb_tools.proofs.outputs.write_output.Goals as goal

pub returns-in-Err-clause-does : goal.returns-in-Err-clause-does
returns-in-Err-clause-does g c =
    λ shelf. does_in _ (does_about ((rw c.output_name-name.ensures at c.in-Err.ensures) shelf _))

pub returns-clause-does : goal.returns-clause-does
returns-clause-does g c = λ shelf.
    does_on ((rw c.output_name-name.ensures at c.in_default.ensures) shelf _) (c.write_file.ensures.does shelf _)
