use Rattle.cweb_rules.proofs.Common.{◌&&◌, drop, ap, sym, ◌∙◌, reach, is_closed, look_in_include, Open, Cut, Reached}
use Rattle.cweb_rules.proofs.Ranges.{closed_same}
use Rattle.cweb_rules.proofs.rule.starts_include.Goals as goal

pub returns : goal.returns
returns c =
    c.is_closed.ensures ∙ ap (λ (r : Reached). is_closed r.how) c.reach.ensures.value
    ∙ ap (λ t. is_closed (reach look_in_include Open t).how) c.split_at.ensures.back
    ∙ sym (closed_same look_in_include (drop 1 c.args.text.now))
    ∙ ap (λ v. v && is_closed (reach look_in_include Cut (drop 1 c.args.text.now)).how)
    (sym c.if-not-begins.false ∙ c.begins.ensures.value)
