use Rattle.cweb_scan.proofs.Common.{length-drop, codes, begins, ◌+◌, ap, sym, ◌∙◌, subst, arith, drop, reach, look_in_name, unescaped, occurrence, opener_after, nat_lt, Open, HasItemRoom}
use Rattle.cweb_rules.specs.declared.items.Item.TheVariants.{Name}
use Rattle.cweb_scan.proofs.Ends.{extent_fits}
use Rattle.cweb_scan.proofs.PendingItems.{moved_room}
use Rattle.cweb_scan.proofs.PendingNames.{name_applies}
use Rattle.cweb_scan.proofs.scanner.Scanner.take_name.Goals as goal

pub split_at-requires-2 : goal.split_at-requires-2
split_at-requires-2 c =
    omega (
      arith,
      extent_fits Name (drop 2 c.args.text.now) c.args.extent c.requires.extent,
      length-drop 2 c.args.text.now,
      c.split_at.ensures.back_len,
    )

pub overflow_add-extent : goal.overflow_add-extent
overflow_add-extent c = omega (
  arith,
  extent_fits Name (drop 2 c.args.text.now) c.args.extent c.requires.extent,
  length-drop 2 c.args.text.now,
  c.requires.two,
)

pub end_spelled-requires-clause-room : goal.end_spelled-requires-clause-room
end_spelled-requires-clause-room c = subst (HasItemRoom 2) (sym c.pass_lines.ensures)
    (moved_room 2 c.args.places.now c.args.self.now c.requires.room)

pub returns : goal.returns
returns c =
    let s = c.args.self.now in
    let t = c.args.text.now in
    let r = c.args.extent in
    let after = c.split_at-2.ensures.back ∙ ap (drop (r.size + r.close)) c.split_at.ensures.back in
    let how = c.ended-how.ensures in
    name_applies t c.args.places.now r c.opener_after-opener.result c.opener_taken-taken.result s c.end_spelled.new.self
    c.requires.extent (c.opener_after-opener.ensures.value ∙ (λ i. opener_after (how i) (after i)))
    c.opener_taken-taken.ensures c.requires.lines
    (c.in_ok-end_spelled.ensures ∙ (λ i. occurrence (begins (codes "@(") t)
    (unescaped (reach look_in_name Open (drop 2 t)).units) (how i) (nat_lt 0 c.opener_after-opener.result)
    (c.self.view_is i).here (c.pass_lines.ensures i)))
