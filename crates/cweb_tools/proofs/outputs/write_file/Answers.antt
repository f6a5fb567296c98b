use Rattle.cweb_tools.proofs.Common.{◌≡◌, List, ℕ, changed, with_draft, written, output_name_at, file_at, arith}
use Rattle.cweb_tools.proofs.Broken.{map_on}
use Rattle.cweb_tools.proofs.Doing.{file_done, not_written}
use Rattle.cweb_tools.proofs.ReadyExpanders.{left_known, text_on}
use Rattle.cweb_tools.proofs.outputs.write_file.Goals as goal

pub print_all-requires-clause-left : goal.print_all-requires-clause-left
print_all-requires-clause-left g c = left_known c.args.names.now
    c.args.expander.now c.restart.new.self c.args.output c.requires.ready c.restart.ensures.store c.restart.ensures.left

-- The file could not be begun.
pub returns-in-Err-Memory-clause-does : goal.returns-in-Err-Memory-clause-does
returns-in-Err-Memory-clause-does g c = grind arith

pub returns-in-Err-Device-clause-does : goal.returns-in-Err-Device-clause-does
returns-in-Err-Device-clause-does g c = grind arith

-- It was begun, and printing it failed.
pub returns-in-Err-clause-does : goal.returns-in-Err-clause-does
returns-in-Err-clause-does g c = grind (arith, not_written, map_on)

-- It was printed, and could not be committed.
pub returns-in-Err-commit_file-clause-does : goal.returns-in-Err-commit_file-clause-does
returns-in-Err-commit_file-clause-does g c = grind (arith, not_written, map_on)

pub returns-clause-does : goal.returns-clause-does
returns-clause-does g c =
    let name : List ℕ = output_name_at c.args.expander.now.plan.now.outputs c.args.output in
    let text : List ℕ = (file_at c.args.names.now c.args.expander.now c.args.output).bytes in
    let printed_is : g.B.Sink.model c.print_all.new.out ≡ written text (changed (with_draft name)
    (g.B.Sink.model c.args.bins.now)) = grind (arith, text_on) in
    grind (arith, file_done, map_on)
