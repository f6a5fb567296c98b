use Rattle.cweb_rules.proofs.Common.{sym, ◌∙◌, ap, if◌then◌else◌}
use Rattle.cweb_rules.proofs.Longest.{triple-len, other-len}
use Rattle.cweb_rules.proofs.punctuators.listed_len.Goals as goal

pub returns-then-begins_triple : goal.returns-then-begins_triple
returns-then-begins_triple c = sym (triple-len c.args.text.now (sym c.begins_triple.ensures ∙ c.if-begins_triple.true))

pub returns-then-begins_pair : goal.returns-then-begins_pair
returns-then-begins_pair c =
    sym (other-len c.args.text.now c.begins_pair.result (sym c.begins_triple.ensures ∙ c.if-begins_triple.false)
    c.begins_pair.ensures ∙ ap (λ b. if b then 2 else 1) c.if-begins_pair.true)

pub returns-else-begins_pair : goal.returns-else-begins_pair
returns-else-begins_pair c =
    sym (other-len c.args.text.now c.begins_pair.result (sym c.begins_triple.ensures ∙ c.if-begins_triple.false)
    c.begins_pair.ensures ∙ ap (λ b. if b then 2 else 1) c.if-begins_pair.false)
