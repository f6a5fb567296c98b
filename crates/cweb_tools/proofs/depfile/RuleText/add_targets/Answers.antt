use Rattle.std.proofs.Common.{◌≡◌, ◌<◌, ◌++◌, List, ℕ, [], arith, length, sym, ◌∙◌, ap, append-nil, get_or}
use Rattle.std.specs.Prelude.{codes, None}
use Rattle.std.proofs.lemmas.List.{get_or-take, length-take}
use Rattle.cweb_tools.specs.Depend.{among_outputs}
use Rattle.cweb_out.specs.Outputs.{Output}
use Rattle.cweb_tools.specs.Depfile.{add_word, escaped}
use Rattle.cweb_tools.specs.declared.depfile.RuleText.{RuleText}
use Rattle.cweb_tools.specs.declared.depfile.escape.Position.TheVariants.{Target}
use Rattle.cweb_tools.specs.inner.RuleModel.{wrapped}
use Rattle.cweb_tools.proofs.RuleWords.{is_inner_target, is_last_target, target_added}
use Rattle.cweb_tools.proofs.depfile.RuleText.add_targets.Goals as goal
use Rattle.cweb_tools.proofs.depfile.RuleText.add_targets.Goals.{then-output-outputs+in_ok-push, else-output-outputs}

abbrev no_output : Output
no_output = record { name = []; root = None }

pub targets-preserved : goal.targets-preserved
targets-preserved c =
    let outputs : List Output = among_outputs c.args.targets c.args.plan.now.outputs in
    let name_of : Output → List ℕ = λ output. output.name in
    let within : c.targets.output < length outputs = omega (arith, c.targets-test.true, c.count-outputs.ensures) in
    let name : c.begin_word.new.self.word.items ≡ escaped Target (name_of (get_or outputs c.targets.output no_output)) =
    grind (arith, get_or-take, length-take) in
    elim c.if-output-outputs.branch [
      | then-output-outputs+in_ok-push w ↦ target_added name_of outputs c.targets.output _ _ no_output (codes ":") _
          within (is_last_target name_of outputs c.targets.output
          (omega (arith, w.if-output-outputs.true, c.count-outputs.ensures)))
          (c.in_ok-add_word.ensures ∙ ap (λ (rule : RuleText). add_word (wrapped rule) rule.word.items) w.self-is
          ∙ (λ i. add_word (c.in_ok-begin_word.ensures.text i)
          ((w.in_ok-push.ensures.items ∙ ap (λ (xs : List ℕ). xs ++ codes ":") name) i))) c.targets.invariant
      | else-output-outputs w ↦ target_added name_of outputs c.targets.output _ _ no_output [] _ within
          (is_inner_target name_of outputs c.targets.output
          (omega (arith, w.if-output-outputs.false, within, c.count-outputs.ensures)))
          (c.in_ok-add_word.ensures ∙ ap (λ (rule : RuleText). add_word (wrapped rule) rule.word.items) w.self-is
          ∙ (λ i. add_word (c.in_ok-begin_word.ensures.text i) ((name ∙ sym (append-nil _)) i))) c.targets.invariant
    ]
