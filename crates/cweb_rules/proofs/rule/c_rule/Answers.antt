use Rattle.cweb_rules.proofs.Common.{false, sym, ap, ◌∙◌, c_rule}
use Rattle.cweb_rules.specs.declared.firsts.Plain.TheVariants as plain
use Rattle.cweb_rules.proofs.FirstBytes.{known-at}
use Rattle.cweb_rules.proofs.rule.c_rule.Goals as goal

pub returns-in-Word : goal.returns-in-Word
returns-in-Word c = (known-at c.args.includes c.args.text.now plain.Word c.in-len1-up.len_at_least (sym c.in-Word.is
    ∙ c.first_byte_class.ensures)).0

pub returns-in-Lone : goal.returns-in-Lone
returns-in-Lone c = (known-at c.args.includes c.args.text.now plain.Lone c.in-len1-up.len_at_least (sym c.in-Lone.is
    ∙ c.first_byte_class.ensures)).0

pub returns-in-Operator : goal.returns-in-Operator
returns-in-Operator c =
    (known-at false c.args.text.now plain.Operator c.in-len1-up.len_at_least (sym c.in-Operator.is
    ∙ c.first_byte_class.ensures)).0 ∙ ap (λ v. c_rule v c.args.text.now) (sym c.if-not-includes.true)
