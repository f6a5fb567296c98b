use Rattle.cweb_scan.proofs.Common.{ap, sym, ◌∙◌, arith, ScanState, report_at, DoubleAtInString}
use Rattle.cweb_scan.proofs.QuotedItems.{lone_at, lines_passed}
use Rattle.cweb_scan.proofs.scanner.Scanner.pass_unit.Goals as goal

pub returns-then-is_lone_at : goal.returns-then-is_lone_at
returns-then-is_lone_at c = lone_at c.args.unit.now c.args.places.now c.args.self.now c.fault-then-is_lone_at.new.self
    (sym c.is_lone_at.ensures ∙ c.if-is_lone_at.true) (c.in_ok-fault.ensures.ok
    ∙ ap (λ (v : ScanState). report_at DoubleAtInString v.here c.args.self.now) c.fault.view_is)

pub returns : goal.returns
returns c =
    let count = c.newlines.ensures in
    lines_passed c.args.unit.now c.newlines.result c.args.places.now c.split_at.result.0.now c.split_at.result.1.now
    c.args.self.now c.pass_lines.new.self (sym c.is_lone_at.ensures ∙ c.if-is_lone_at.false) count
    (omega (arith, count, c.requires)) c.split_at.ensures.front c.split_at.ensures.back c.pass_lines.ensures
