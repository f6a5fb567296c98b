use Rattle.cweb_scan.proofs.Common.{sym, subst, arith}
use Rattle.cweb_scan.proofs.Blanks.{blank_passed}
use Rattle.cweb_scan.proofs.PlainLexemes.{left_line, none_taken, piece_within, some_ended, some_goes_on, some_taken, TakesSome}
use Rattle.cweb_scan.proofs.scanner.Scanner.take_plain.Goals as goal

pub invariant_of-take_lexeme-clause-line : goal.invariant_of-take_lexeme-clause-line
invariant_of-take_lexeme-clause-line c = grind (arith, left_line, blank_passed)

pub split_at-requires : goal.split_at-requires
split_at-requires c = grind (arith, piece_within, some_taken)

pub pieces-preserved : goal.pieces-preserved
pieces-preserved c =
    let n = c.in-Some.size in
    let text = c.args.rest.now in
    let old = c.args.self.now in
    let u = c.past_blank-piece.result.now in
    let new = c.take_lexeme.new.self in
    let before = subst (λ t. TakesSome text t old c.pieces.self) (sym c.past_blank-piece.ensures)
    (blank_passed text c.pieces.left.now old c.pieces.self c.requires.line c.pieces.invariant.1
    c.pieces.invariant.0) in (
      some_goes_on n text u c.split_at.result.1.now old c.pieces.self new c.split_at.ensures.back before
          (some_taken n c.in_ok-size.field-0 u c.pieces.self new c.in-Some.is c.in_ok-size.ensures.taken.taken),
      c.in_ok-size.ensures.taken.stays,
    )

pub returns-in-None : goal.returns-in-None
returns-in-None c =
    let text = c.args.rest.now in
    let old = c.args.self.now in
    let u = c.past_blank-piece.result.now in
    let new = c.take_lexeme.new.self in
    let before = subst (λ t. TakesSome text t old c.pieces.self) (sym c.past_blank-piece.ensures)
    (blank_passed text c.pieces.left.now old c.pieces.self c.requires.line c.pieces.invariant.1 c.pieces.invariant.0) in
    some_ended text u old c.pieces.self new before
    (none_taken c.in_ok-size.field-0 u c.pieces.self new c.in-None.is c.in_ok-size.ensures.taken.taken)

pub returns-then-is_empty : goal.returns-then-is_empty
returns-then-is_empty c = grind (arith, blank_passed)
