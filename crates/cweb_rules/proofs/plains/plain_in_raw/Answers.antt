use Rattle.cweb_rules.proofs.Common.{arith, common_steps}
use Rattle.cweb_rules.proofs.PlainSpans.{no_sign-none}
use Rattle.cweb_rules.proofs.plains.plain_in_raw.Goals as goal

pub returns-in-empty : goal.returns-in-empty
returns-in-empty c = record {
  value = no_sign-none c.args.closer.now c.args.text.now c.in-empty.len_below;
  within = grind (arith, common_steps);
}
