use Rattle.std.proofs.Common.{rules}
use Rattle.std.proofs.Common.{arith}
use Rattle.cweb_out.proofs.Common.{setting_of}
use Rattle.cweb_out.proofs.AppendedParts.{wrote_err}
use Rattle.cweb_out.proofs.Steps.{file-end}
use Rattle.cweb_out.proofs.printer.Printer.end.Goals as goal

pub returns-in_err-write_all-clause-ends : goal.returns-in_err-write_all-clause-ends
returns-in_err-write_all-clause-ends g c =
    let s = setting_of c.args.self.now in
    record {
      bytes = c.begin_line.result.now;
      expected = grind (arith, file-end);
      wrote = grind (arith, wrote_err);
    }

pub returns-clause-ends : goal.returns-clause-ends
returns-clause-ends g c = grind (arith, file-end)

pub returns-clause-left : goal.returns-clause-left
returns-clause-left g c = search rules
