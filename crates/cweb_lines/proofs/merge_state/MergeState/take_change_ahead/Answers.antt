use Rattle.cweb_lines.proofs.Common.{[], ◌∷◌, None, refl, arith, rules}
use Rattle.cweb_lines.proofs.LinesInBuffer.{run_at}
use Rattle.cweb_lines.proofs.NextLines.{line_taken, room_for_line}
use Rattle.cweb_lines.proofs.merge_state.MergeState.take_change_ahead.Goals as goal

pub advance_slot-requires-clause-next : goal.advance_slot-requires-clause-next
advance_slot-requires-clause-next g c =
    let bytes = c.requires.next.0 in
    let next = c.requires.next.1 in (
      None,
      bytes ∷ [],
      run_at None c.args.self.now.change c.args.next (bytes ∷ []) next,
      room_for_line c.args.next bytes c.args.self.now.change c.args.self.now.limits next c.requires.few
          c.requires.small,
    )

pub returns : goal.returns
returns g c =
    let next = c.requires.next.1 in
    let passes = c.advance_slot.ensures.passes None (c.requires.next.0 ∷ [])
    (run_at None c.args.self.now.change c.args.next (c.requires.next.0 ∷ []) next) in
    record {
      takes = λ left. line_taken c.args.next c.requires.next.0 _ _ _ _ next passes left;
      only = search rules;
      stack = refl;
      counted = omega (arith, passes.few);
      readers = λ opened_as known. record {
        texts = known.texts;
        change = c.advance_slot.ensures.level.named opened_as _ known.change;
      };
    }
