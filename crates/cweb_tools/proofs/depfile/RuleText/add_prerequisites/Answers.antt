use Rattle.std.proofs.Common.{◌≡◌, ◌<◌, ◌+◌, arith, length, drop, ◌∙◌}
use Rattle.cweb_tools.specs.Depfile.{add_word, position_before}
use Rattle.cweb_tools.specs.inner.RuleModel.{keys_of}
use Rattle.cweb_tools.proofs.RuleWords.{is_inner, is_last, word_added}
use Rattle.cweb_tools.proofs.depfile.RuleText.add_prerequisites.Goals as goal
use Rattle.cweb_tools.proofs.depfile.RuleText.add_prerequisites.Goals.{then-at-count, else-at-count}

pub inputs-preserved : goal.inputs-preserved
inputs-preserved c =
    let within : c.inputs.at < length c.args.inputs.now = omega (arith, c.inputs-test.true) in
    let position : c.if-at-count.position ≡ position_before (drop (c.inputs.at + 1) (keys_of c.args.inputs.now)) =
    grind (arith, then-at-count, is_last, else-at-count, is_inner) in
    word_added _ _ c.args.inputs.now c.inputs.at _ c.if-at-count.position _ within position
    (c.in_ok-add_word.ensures ∙ (λ i. add_word (c.in_ok-begin_word.ensures.text i) (c.in_ok-begin_word.ensures.word i)))
    c.inputs.invariant
