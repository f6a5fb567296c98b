use Rattle.std.proofs.Common.{arith}
use Rattle.cweb_out.proofs.Common.{◌≡◌, ◌++◌, ◌∙◌, sym, Bool, List, ℕ, Left, Token, false, token_model, added, is_apart, is_dropped, blank_where, continuation_bytes, macro_by, plain_bytes, replaced_in}
use Rattle.cweb_files.proofs.Appending.{wrote_until}
use Rattle.cweb_out.proofs.AppendedParts.{second_until, three_then}
use Rattle.cweb_out.proofs.printer.macros.write_spaced.Goals as goal

-- The token's bytes as three parts.
in_three : (replaced : ℕ → List ℕ) (left : Left) (t : Token) (apart : Bool) (continued : List ℕ)
    → is_dropped left t ≡ false → apart ≡ is_apart left.last t → continued ≡ continuation_bytes t
    → added (macro_by replaced) left t ≡ blank_where apart ++ (continued ++ plain_bytes replaced t)
in_three replaced left t apart continued stays is continues = cc (stays, is, continues)

pub returns-in_err-write_blank : goal.returns-in_err-write_blank
returns-in_err-write_blank g c = grind (arith, wrote_until, in_three)

pub returns-in_err-put : goal.returns-in_err-put
returns-in_err-put g c = grind (arith, second_until, in_three)

pub returns : goal.returns
returns g c = record {
  wrote = three_then _ _ _ _ _ (blank_where c.is_apart.result) c.continued.result.now _ c.write_plain.result
      (in_three (replaced_in c.args.store.now) c.args.left (token_model c.args.token.now) c.is_apart.result _
      (sym c.drops.ensures ∙ c.if-drops.false) c.is_apart.ensures c.continued.ensures)
      c.in_ok-write_blank.ensures.wrote c.in_ok-put.ensures.wrote c.write_plain.ensures.wrote;
  borrows = grind arith;
}
