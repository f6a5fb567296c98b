use Rattle.cweb_rules.proofs.Common.{arith, common_steps, ◌∙◌, is_byte3}
use Rattle.cweb_rules.proofs.PlainSpans.{before_first}
use Rattle.cweb_rules.proofs.plains.len_before3.Goals as goal

pub returns : goal.returns
returns c = record {
  value = c.unwrap_or.ensures ∙ before_first (is_byte3 c.args.one c.args.other c.args.third) c.args.text.now
      c.memchr3.result c.memchr3.ensures;
  within = grind (arith, common_steps);
}
