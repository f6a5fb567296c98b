use Rattle.cweb_out.proofs.Common.{token_model, added, file_by, left_in_printer, setting_of, arith}
use Rattle.cweb_out.proofs.AppendedParts.{wrote_err}
use Rattle.cweb_out.proofs.Steps.{print-push}
use Rattle.cweb_out.proofs.printer.Printer.write.Goals as goal

pub returns-in_err-write_token-clause-prints : goal.returns-in_err-write_token-clause-prints
returns-in_err-write_token-clause-prints g c =
    let s = setting_of c.args.self.now in
    let left = left_in_printer c.args.self.now in
    let t = token_model c.args.token in
    record {
      bytes = added (file_by s) left t;
      expected = λ ts is. print-push s left ts t is;
      wrote = grind (arith, wrote_err);
    }

pub returns-clause-prints : goal.returns-clause-prints
returns-clause-prints g c =
    let s = setting_of c.args.self.now in
    let left = left_in_printer c.args.self.now in
    let t = token_model c.args.token in
    record {
      bytes = added (file_by s) left t;
      expected = λ ts is. print-push s left ts t is;
      wrote = c.in_ok-write_token.ensures.wrote;
    }
