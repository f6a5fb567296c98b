use Rattle.cweb_lines.proofs.Common.{◌++◌, ◌∷◌, [], ℕ, List, Some, ◌∙◌, ap, sym, refl, arith, change_code}
use Rattle.cweb_lines.proofs.NextLines.{change_none}
use Rattle.cweb_lines.proofs.PassedChanges.{new_end_passes, new_passes}
use Rattle.cweb_lines.proofs.merge_state.MergeState.pass_new.Goals as goal

pub returns-in_default : goal.returns-in_default
returns-in_default g c = change_none _ _ _ _ _ refl (λ is. cc)

pub returns-in-Some-change_code : goal.returns-in-Some-change_code
returns-in-Some-change_code g c = change_none _ _ _ _ _ refl (λ is. cc)

pub returns-in_err-append_line-in-None : goal.returns-in_err-append_line-in-None
returns-in_err-append_line-in-None g c = change_none _ _ _ _ _ c.in_err-append_line-in-None.ensures.err (λ is. grind arith)

pub returns-in_ok-append_line-in-None : goal.returns-in_ok-append_line-in-None
returns-in_ok-append_line-in-None g c =
    let takes = c.take_change_ahead.ensures in
    let code = ap change_code (sym c.text_in-line.ensures) ∙ sym c.change_code.ensures ∙ c.in-None.is in
    let buffer = c.args.buffer.now.items in
    record {
      passes = new_passes c.args.self.now c.take_change_ahead.new.self c.in-Some.next c.args.change c.in-Some.ensures.0
          c.in-Some.ensures.1 takes c.requires.changing c.requires.below c.args.room buffer _ code c.requires.more
          (c.in_ok-append_line-in-None.ensures.ok
          ∙ ap (λ (b : List ℕ). buffer ++ b ++ 10 ∷ []) c.text_in-line.ensures);
      counted = λ is. omega (arith, takes.counted);
    }

pub returns-in-Some-EndSide : goal.returns-in-Some-EndSide
returns-in-Some-EndSide g c =
    let takes = c.take_change_ahead-in-Some-EndSide.ensures in
    let code = ap change_code (sym c.text_in-line.ensures) ∙ sym c.change_code.ensures ∙ c.in-Some-EndSide.is
    ∙ ap Some c.in-Some-EndSide.field-0-is in
    record {
      passes = new_end_passes c.args.self.now c.take_change_ahead-in-Some-EndSide.new.self c.in-Some.next c.args.change
          c.in-Some.ensures.0 c.in-Some.ensures.1 takes c.requires.changing c.requires.below c.args.room
          c.args.buffer.now.items _ refl refl refl refl refl refl refl refl code;
      counted = λ is. omega (arith, takes.counted);
    }
