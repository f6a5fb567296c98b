use Rattle.cweb_rules.proofs.Common.{arith, common_steps, ◌∙◌, is_byte}
use Rattle.cweb_rules.proofs.PlainSpans.{before_first}
use Rattle.cweb_rules.proofs.plains.len_before.Goals as goal

pub returns : goal.returns
returns c = record {
  value = c.unwrap_or.ensures ∙ before_first (is_byte c.args.byte) c.args.text.now c.memchr.result c.memchr.ensures;
  within = grind (arith, common_steps);
}
