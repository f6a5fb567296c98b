use Rattle.cweb_tools.proofs.Common.{map, take, None, opened_file_names, DoesInBoth, StaysReady, outputs_acts, output_file}
use Rattle.cweb_tools.proofs.outputs.write_outputs.Given as goal

abbrev pub invariant-outputs : goal.invariant-outputs
invariant-outputs g l = record {
  stays : StaysReady l.fn.expander l.expander;
  does : DoesInBoth (outputs_acts l.progress (map (output_file l.fn.expander.store.now (opened_file_names l.names))
      (take l.output l.fn.expander.plan.now.outputs))) None (g.B.Sink.model l.fn.bins) (g.B.Sink.model l.bins)
      (g.L.Sink.model l.fn.log) (g.L.Sink.model l.log);
}
