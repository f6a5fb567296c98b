use Rattle.cweb_rules.proofs.Common.{arith, common_steps, ◌∙◌, is_byte2}
use Rattle.cweb_rules.proofs.PlainSpans.{before_first}
use Rattle.cweb_rules.proofs.plains.len_before2.Goals as goal

pub returns : goal.returns
returns c = record {
  value = c.unwrap_or.ensures ∙ before_first (is_byte2 c.args.one c.args.other) c.args.text.now c.memchr2.result
      c.memchr2.ensures;
  within = grind (arith, common_steps);
}
