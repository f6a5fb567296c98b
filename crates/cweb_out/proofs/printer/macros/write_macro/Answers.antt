use Rattle.std.proofs.Common.{arith}
use Rattle.cweb_out.proofs.Common.{◌≡◌, ◌++◌, codes, refl, Stored, Part, macro_line, all_added, at_start, macro_by, replaced_in, tokens_of_part}
use Rattle.cweb_files.proofs.Appending.{wrote_until}
use Rattle.cweb_out.proofs.AppendedParts.{second_until, three_then}
use Rattle.cweb_out.proofs.Steps.{macro-printed}
use Rattle.cweb_out.proofs.printer.macros.write_macro.Goals as goal

-- The line as its three parts.
in_three : (w : Stored) (part : Part) → macro_line (replaced_in w) (tokens_of_part w part)
    ≡ codes "#define " ++ (all_added (macro_by (replaced_in w)) at_start (tokens_of_part w part) ++ codes "\n")
in_three w part = grind (arith, macro-printed)

pub returns-in_err-put : goal.returns-in_err-put
returns-in_err-put g c = record {
  wrote = wrote_until _ (codes "#define ") _ _ _ c.from_residual.result c.from_residual.ensures.0 refl
      c.in_err-put.ensures.wrote;
  borrows = grind arith;
}

pub returns-in_err-write_macro_tokens : goal.returns-in_err-write_macro_tokens
returns-in_err-write_macro_tokens g c = record {
  wrote = second_until _ _ _ _ (codes "#define ") _ (codes "\n") c.from_residual-in_err-write_macro_tokens.result
      c.from_residual-in_err-write_macro_tokens.ensures.0 (in_three c.args.store.now c.args.part)
      c.in_ok-put.ensures.wrote c.in_err-write_macro_tokens.ensures.wrote;
  borrows = grind arith;
}

pub returns : goal.returns
returns g c = record {
  wrote = three_then _ _ _ _ _ (codes "#define ") _ (codes "\n") c.put-2.result (in_three c.args.store.now
      c.args.part) c.in_ok-put.ensures.wrote c.in_ok-write_macro_tokens.ensures.wrote
      c.put-2.ensures.wrote;
  borrows = grind arith;
}
