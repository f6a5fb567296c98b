use Rattle.std.proofs.Common.{◌<◌, arith, length}
use Rattle.cweb_tools.specs.Depfile.{leader}
use Rattle.cweb_tools.specs.inner.RuleModel.{keys_of}
use Rattle.cweb_tools.proofs.RuleWords.{rule_added}
use Rattle.cweb_tools.proofs.depfile.RuleText.finish.Goals as goal

pub inputs-preserved : goal.inputs-preserved
inputs-preserved c =
    let within : c.inputs.at < length c.args.inputs.now = omega (arith, c.inputs-test.true) in
    rule_added (leader (keys_of c.args.inputs.now)) c.inputs.text.items _ _ c.args.inputs.now c.inputs.at _ within
    (rw c.leader-lead.ensures at c.in_ok-append_empty_rule.ensures) c.inputs.invariant
