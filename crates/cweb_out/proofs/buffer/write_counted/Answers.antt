use Rattle.cweb_out.proofs.Common.{◌∙◌, ap, arith, length-drop, take-add}
use Rattle.std.proofs.lemmas.List.{take_all}
use Rattle.cweb_files.specs.Sinks.{failed_once}
use Rattle.cweb_files.proofs.Appending.{written_none, written_then}
use Rattle.cweb_out.proofs.buffer.write_counted.Goals as goal

pub pieces-init : goal.pieces-init
pieces-init g c = record { within = omega arith; wrote = written_none (g.W.Sink.model c.args.out.now) }

pub pieces-preserved : goal.pieces-preserved
pieces-preserved g c = grind (arith, take_all, length-drop, written_then, take-add)

pub returns-in-Err-clause-err : goal.returns-in-Err-clause-err
returns-in-Err-clause-err g c = c.in-Err.ensures.err ∙ ap failed_once c.pieces.invariant.wrote
