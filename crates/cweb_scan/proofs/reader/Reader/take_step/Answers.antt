use Rattle.cweb_scan.proofs.Common.{ℕ, List, length, ap, sym, ◌∙◌, subst, eqb-true, IsLine, IsLine-drop, arith}
use Rattle.cweb_scan.proofs.PlainLexemes.{piece_within}
use Rattle.cweb_scan.proofs.StepAfterPlain.{plain_all, plain_taken, plain_room, plain_then}
use Rattle.cweb_scan.proofs.reader.Reader.take_step.Goals as goal

pub returns : goal.returns
returns c =
    let u = c.args.rest.bytes.now in
    let h = c.args.self.now in
    let n = c.in_ok-plain.plain in
    let t = plain_taken n u h _ c.take_plain.new.self c.self.view_is c.requires.between c.in_ok-plain.ensures in
    plain_then n c.in_ok-size.size u c.split_at.result.1.now h _ c.take_between.new.self t c.split_at.ensures.back
    c.in_ok-size.ensures

pub split_at-requires : goal.split_at-requires
split_at-requires c =
    piece_within c.in_ok-plain.plain c.args.rest.bytes.now _ c.take_plain.new.self c.in_ok-plain.ensures

pub returns-then-is_empty : goal.returns-then-is_empty
returns-then-is_empty c =
    let u = c.args.rest.bytes.now in
    let h = c.args.self.now in
    let n = c.in_ok-plain.plain in
    let t = plain_taken n u h _ c.take_plain.new.self c.self.view_is c.requires.between c.in_ok-plain.ensures in
    let empty = eqb-true (length c.split_at.result.1.now) 0 (sym c.is_empty.ensures ∙ c.if-is_empty.true) in
    plain_all n u h _ t (sym (ap (λ (w : List ℕ). length w) c.split_at.ensures.back) ∙ empty) c.args.rest.some

pub invariant_of-take_between-clause-line : goal.invariant_of-take_between-clause-line
invariant_of-take_between-clause-line c = subst IsLine
    (sym c.split_at.ensures.back) (IsLine-drop c.in_ok-plain.plain c.args.rest.bytes.now c.args.rest.line)

pub take_between-requires : goal.take_between-requires
take_between-requires c =
    let u = c.args.rest.bytes.now in
    let h = c.args.self.now in
    let n = c.in_ok-plain.plain in
    let t = plain_taken n u h _ c.take_plain.new.self c.self.view_is c.requires.between c.in_ok-plain.ensures in
    record {
      between = grind (arith, c.requires.between);
      context = tt;
      room = plain_room n u h _ t c.requires.room;
    }
