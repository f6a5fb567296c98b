use Rattle.std.proofs.Common.{arith}
use Rattle.std.proofs.lemmas.Grind.{common_steps}
use Rattle.cweb_out.proofs.Common.{refl, token_model, added, file_by, left_in_printer, setting_of}
use Rattle.cweb_out.proofs.AppendedParts.{wrote_err}
use Rattle.cweb_out.proofs.Steps.{print-push}
use Rattle.cweb_out.proofs.printer.Printer.append.Goals as goal

pub returns-in_err-append_token-clause-prints : goal.returns-in_err-append_token-clause-prints
returns-in_err-append_token-clause-prints g c =
    let s = setting_of c.args.self.now in
    let left = left_in_printer c.args.self.now in
    let t = token_model c.args.token in
    record {
      bytes = added (file_by s) left t;
      expected = λ ts is. print-push s left ts t is;
      wrote = wrote_err _ _ _ _ c.from_residual.result c.from_residual.ensures.0 refl c.in_err-append_token.ensures;
    }

pub returns-clause-prints : goal.returns-clause-prints
returns-clause-prints g c =
    let s = setting_of c.args.self.now in
    let left = left_in_printer c.args.self.now in
    let t = token_model c.args.token in
    record {
      bytes = added (file_by s) left t;
      expected = λ ts is. print-push s left ts t is;
      wrote = c.in_ok-append_token.ensures;
    }

pub returns-clause-moves : goal.returns-clause-moves
returns-clause-moves g c = grind (arith, common_steps)
