use Rattle.cweb_scan.proofs.Common.{List, ℕ, ◌++◌, ap, ◌∙◌, arith, take, body, reach, unescaped, unit_bytes, at_line_ends, emit_literal, Open, append-nil}
use Rattle.cweb_rules.specs.inner.LineItems.{look_of}
use Rattle.cweb_scan.proofs.QuotedItems.{quoted_taken, quoted_lines, quoted_passes}
use Rattle.cweb_scan.proofs.scanner.Scanner.take_quoted.Goals as goal

pub pass_unit-requires : goal.pass_unit-requires
pass_unit-requires c = omega (
  arith,
  ap (at_line_ends 1) c.split_at.ensures.front,
  quoted_lines c.args.opener c.args.item c.args.text.now c.reach-reached.result _
      (rw c.split_at.ensures.back at c.reach-reached.ensures.value) c.requires.lines,
)

pub pass_units-requires-clause-lines : goal.pass_units-requires-clause-lines
pass_units-requires-clause-lines c = omega (
  arith,
  ap (at_line_ends 1) c.split_at.ensures.front,
  ap (at_line_ends 1) (append-nil c.split_at.result.0.now),
  ap (λ (t : List ℕ). at_line_ends 1 (body (reach (look_of c.args.item) Open t))) c.split_at.ensures.back,
  c.in_ok-left.ensures.lines,
  quoted_lines c.args.opener c.args.item c.args.text.now c.reach-reached.result _
      (rw c.split_at.ensures.back at c.reach-reached.ensures.value) c.requires.lines,
)

pub pass_unit-requires-2 : goal.pass_unit-requires-2
pass_unit-requires-2 c = grind (arith, append-nil, quoted_lines)

pub returns : goal.returns
returns c =
    let r = c.reach-reached.result in
    let look = look_of c.args.item in
    let first = c.split_at.result.0.now in
    let inner = c.split_at.result.1.now in
    let close = c.split_at-3.result.0.now in
    let us = (reach look Open inner).units in
    let text = c.deref.ensures.value ∙ c.in_ok-push_unit-2.ensures
    ∙ (λ i. c.in_ok-push_body.ensures i ++ unit_bytes close)
    ∙ (λ i. (c.in_ok-push_unit.ensures i ++ unescaped us) ++ unit_bytes close)
    ∙ (λ i. ((c.new-bytes.ensures.items i ++ unit_bytes first) ++ unescaped us) ++ unit_bytes close) in
    quoted_taken c.args.opener c.args.item c.args.text.now c.args.places.now _ r c.deref.result.now c.args.self.now
    c.pass_unit-2.new.self c.emit_literal.new.self first inner close c.split_at.ensures.front c.split_at.ensures.back
    (c.split_at-3.ensures.front ∙ ap (take r.close) c.split_at-2.ensures.back) c.reach-reached.ensures.value
    c.requires.lines (quoted_passes _ _ _ _ _ _ _ _ _ _ _ c.in_ok-left.ensures c.in_ok-left-2.ensures
    c.in_ok-pass_unit.ensures) text
    (c.in_ok-emit_literal.ensures
    ∙ (λ i. emit_literal c.deref.result.now (c.ended.ensures i) (c.self.view_is i).here c.pass_unit-2.new.self))
