use Rattle.std.proofs.Common.{arith}
use Rattle.cweb_out.proofs.Common.{◌++◌, refl, codes, quoted}
use Rattle.cweb_files.proofs.Appending.{wrote_until}
use Rattle.cweb_out.proofs.AppendedParts.{second_until, three_then}
use Rattle.cweb_out.proofs.printer.mark.write_file_name.Goals as goal

pub returns-in_err-put : goal.returns-in_err-put
returns-in_err-put g c = record {
  wrote = wrote_until _ (codes " \"") (quoted c.args.name.now ++ codes "\"\n") _ _ c.from_residual.result
      c.from_residual.ensures.0 refl c.in_err-put.ensures.wrote;
  borrows = grind arith;
}

pub returns-in_err-write_quoted : goal.returns-in_err-write_quoted
returns-in_err-write_quoted g c = record {
  wrote = second_until _ _ _ _ (codes " \"") (quoted c.args.name.now) (codes "\"\n")
      c.from_residual-in_err-write_quoted.result c.from_residual-in_err-write_quoted.ensures.0 refl
      c.in_ok-put.ensures.wrote c.in_err-write_quoted.ensures.wrote;
  borrows = grind arith;
}

pub returns : goal.returns
returns g c = record {
  wrote = three_then _ _ _ _ _ (codes " \"") (quoted c.args.name.now) (codes "\"\n") c.put-2.result refl
      c.in_ok-put.ensures.wrote c.in_ok-write_quoted.ensures.wrote c.put-2.ensures.wrote;
  borrows = grind arith;
}
