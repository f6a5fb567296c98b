use Rattle.cweb_lines.proofs.Common.{◌≡◌, ◌-◌, ◌<◌, ◌∙◌, [], ◌∷◌, ◌++◌, None, refl, sym, ap, arith, change_code, length, get_or_default, number_or_zero, source_depth, top_of}
use Rattle.std.specs.Prelude.{slice_index_or}
use Rattle.cweb_lines.proofs.LinesAhead.{has_room}
use Rattle.cweb_lines.proofs.LinesInBuffer.{few_lines}
use Rattle.cweb_lines.proofs.NextLines.{deep_enough, silent_none}
use Rattle.cweb_lines.proofs.PassedOldSides.{old_side_passes}
use Rattle.cweb_lines.proofs.SourceStacks.{deep-at}
use Rattle.cweb_lines.proofs.merge_state.MergeState.pass_old.Goals as goal

pub returns-in_default : goal.returns-in_default
returns-in_default g c = silent_none _ _ (λ is. cc)

pub advance_top-requires : goal.advance_top-requires
advance_top-requires g c =
    let run = c.args.self.now in
    let part = c.in-Some.ensures.is.part in
    let room = has_room _ _ part.before part.raw part.web_is run.limits (omega (arith, c.requires.two.few))
    (omega (arith, c.requires.two.small)) in (
      omega arith,
      (
        c.in-Some.ensures.some,
        (
          run.shallow,
          (
            (None, part.before ++ part.raw ∷ [], part.web_is.in_place, room),
            run.numbers,
          ),
        ),
      ),
    )

pub advance_slot-requires-clause-next : goal.advance_slot-requires-clause-next
advance_slot-requires-clause-next g c =
    let part = c.in-Some.ensures.is.part in
    let passes = c.advance_top.ensures.passes None (part.before ++ part.raw ∷ []) part.web_is.in_place in (
      None,
      part.olds ++ part.last ∷ [],
      part.side_is.in_place,
      has_room _ _ part.olds part.last part.side_is _
          (omega (arith, c.requires.two.few, passes.few, few_lines (part.before ++ part.raw ∷ []), part.web_is.small))
          (omega (arith, c.requires.two.small, passes.bytes, part.web_is.small)),
    )

pub invariant_of-self-3-clause-floor_deep : goal.invariant_of-self-3-clause-floor_deep
invariant_of-self-3-clause-floor_deep g c =
    let run = c.args.self.now in
    let part = c.in-Some.ensures.is.part in
    let within : run.stack.depth - 1 < length run.stack.texts = omega arith in
    let same : top_of run.stack ≡ slice_index_or run.stack.texts (run.stack.depth - 1) c.index-self-self.result =
    get_or_default run.stack.texts (run.stack.depth - 1) None c.index-self-self.result within in
    let deep = deep_enough (top_of run.stack) c.in-Some.ahead.web.all _ (run.stack.depth - 1) part.web_is.in_place
    (deep-at 0 (run.stack.depth - 1) (run.stack.depth - 1) run.stack.texts None (omega arith) within run.deep) in
    omega (
      arith,
      deep,
      c.in-Some.ensures.some,
      c.depth_in-depth.ensures,
      ap (number_or_zero source_depth) same,
      c.advance_top.ensures.keeps.depth,
    )

pub returns : goal.returns
returns g c =
    let run = c.args.self.now in
    let is = c.in-Some.ensures.is in
    let part = is.part in
    let lines = part.before ++ part.raw ∷ [] in
    let side = part.olds ++ part.last ∷ [] in
    let within : run.stack.depth - 1 < length run.stack.texts = omega arith in
    let same : top_of run.stack ≡ slice_index_or run.stack.texts (run.stack.depth - 1) c.index-self-self.result =
    get_or_default run.stack.texts (run.stack.depth - 1) None c.index-self-self.result within in
    let top = c.advance_top.ensures.passes None lines part.web_is.in_place in
    let slot = c.advance_slot.ensures.passes None side part.side_is.in_place in
    old_side_passes run _ c.advance_top.new.limits c.in-Some.ahead.web.all c.in-Some.ahead.side.all lines part.olds
    part.last c.args.begin c.depth_in-depth.result c.in-Some.ensures.some top slot part.web_is.in_place
    part.side_is.in_place part.equal part.plain (ap change_code (sym part.side_is.bytes) ∙ is.turns) part.matches
    (c.depth_in-depth.ensures ∙ ap (number_or_zero source_depth) (sym same)) c.requires.waiting refl refl refl refl _
    refl (λ opened_as known. record {
      texts = c.advance_top.ensures.keeps.named opened_as _ known.texts;
      change = c.advance_slot.ensures.level.named opened_as _ known.change;
    })
