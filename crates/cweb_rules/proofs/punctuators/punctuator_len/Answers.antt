use Rattle.cweb_rules.proofs.Common.{sym, refl, ◌∙◌, is_one_of, listed, seconds}
use Rattle.cweb_rules.proofs.Longest.{longest-none}
use Rattle.cweb_rules.proofs.punctuators.punctuator_len.Goals as goal

pub returns-then-not-may_be_listed : goal.returns-then-not-may_be_listed
returns-then-not-may_be_listed c = sym (longest-none (is_one_of seconds) listed c.args.text.now refl
    (sym c.may_be_listed.ensures ∙ c.if-not-may_be_listed.true))

pub returns : goal.returns
returns c = c.listed_len.ensures
