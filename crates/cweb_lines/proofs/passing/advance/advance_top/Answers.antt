use Rattle.cweb_lines.proofs.Common.{◌≡◌, ◌+◌, ◌<◌, ◌-◌, length, refl, arith, get_or-set_same, get_or_default, files_up_to, maximum_of}
use Rattle.cweb_lines.proofs.ReadersStayNamed.{named_at, named_set}
use Rattle.cweb_lines.proofs.SourceStacks.{top_passed, most_read, most_set, stays_below, deep-at, deep-set}
use Rattle.cweb_lines.proofs.passing.advance.advance_top.Goals as goal

pub advance_slot-requires-clause-number : goal.advance_slot-requires-clause-number
advance_slot-requires-clause-number g c = grind (arith, most_read)

pub returns-clause-passes : goal.returns-clause-passes
returns-clause-passes g c = grind (arith, get_or_default, top_passed)

pub returns-clause-keeps : goal.returns-clause-keeps
returns-clause-keeps g c =
    let texts = c.args.stack.now.texts in
    let place = c.args.stack.now.depth - 1 in
    let within : c.args.stack.now.depth - 1 < length texts = omega arith in
    let top : c.args.stack.now.depth - 1 ≡ 0 + (c.args.stack.now.depth - 1) = omega arith in
    let level = c.advance_slot.ensures.level in
    record {
      depth = refl;
      below = stays_below texts _ place place c.advance_slot.new.slot (omega arith) refl;
      named = λ opened_as names each. named_set opened_as names texts place c.advance_slot.new.slot each
          (level.named opened_as names (named_at opened_as names texts place c.index-stack-top.result within each));
      files = most_set files_up_to texts place c.advance_slot.new.slot (maximum_of files_up_to texts) (omega arith)
          (omega (
            arith,
            level.file,
            most_read files_up_to texts place c.index-stack-top.result within,
          ));
      deep = grind (arith, deep-set, deep-at);
      buffer = grind (arith, get_or-set_same, get_or_default);
    }

pub returns-clause-numbers : goal.returns-clause-numbers
returns-clause-numbers g c = grind (arith, most_set)
