use Rattle.cweb_tools.proofs.Common.{◌<◌, [], List, length, arith, None, Ok, Err, opened_file_names, Output, output_file}
use Rattle.cweb_tools.proofs.Doing.{bins_counted, does_in, does_none, does_on, logs_counted}
use Rattle.cweb_tools.proofs.ReadyExpanders.{acts_all, acts_at, acts_more, output_on, stays, stays_on}
use Rattle.cweb_tools.proofs.outputs.write_outputs.Goals as goal

abbrev no_output : Output
no_output = record { name = []; root = None }

pub write_output-requires-clause-counts : goal.write_output-requires-clause-counts
write_output-requires-clause-counts g c = grind (arith, bins_counted, logs_counted)

pub returns-in-Err-clause-does : goal.returns-in-Err-clause-does
returns-in-Err-clause-does g c =
    let outs : List Output = c.args.expander.now.plan.now.outputs in
    let within : c.outputs.output < length outs = omega (arith, c.outputs-test.true, c.outputs-output-end.ensures) in
    λ shelf. rw (acts_at (output_file c.args.expander.now.store.now (opened_file_names c.args.names.now))
    c.args.progress outs c.outputs.output no_output within)
    (does_on (c.outputs.invariant.does shelf) (does_in _ (output_on {A = Unit {0}} c.args.progress
    c.args.names.now c.outputs.output (Err c.in-Err.stop) c.outputs.invariant.stays c.in-Err.ensures.does shelf)))

pub outputs-preserved : goal.outputs-preserved
outputs-preserved g c =
    let outs : List Output = c.args.expander.now.plan.now.outputs in
    let within : c.outputs.output < length outs = omega (arith, c.outputs-test.true, c.outputs-output-end.ensures) in
    record {
      stays = stays_on c.outputs.invariant.stays c.in_default.ensures.stays;
      does = λ shelf. rw
          (acts_more (output_file c.args.expander.now.store.now (opened_file_names c.args.names.now)) c.args.progress
          outs
          c.outputs.output no_output within) (does_on (c.outputs.invariant.does shelf)
          (output_on {A = Unit {0}} c.args.progress c.args.names.now c.outputs.output
          (Ok tt) c.outputs.invariant.stays c.in_default.ensures.does shelf));
    }

pub returns-clause-does : goal.returns-clause-does
returns-clause-does g c = grind (arith, acts_all)

pub outputs-init : goal.outputs-init
outputs-init g c = record { stays = stays c.requires.ready; does = λ shelf. does_none }
