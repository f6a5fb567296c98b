use Rattle.cweb_tools.proofs.Common.{length, opened_file_names, PrintsSoFar, left_in}
use Rattle.cweb_tools.proofs.outputs.print_all.Given as goal

abbrev pub invariant-tokens : goal.invariant-tokens
invariant-tokens g l =
    PrintsSoFar (opened_file_names l.names) l.fn.expander l.expander l.printer (g.W.Sink.model l.fn.out)
    (g.W.Sink.model l.out) l.buffer.bytes

abbrev pub decreases-tokens : goal.decreases-tokens
decreases-tokens g l = length (left_in l.expander)
