use Rattle.cweb_out.proofs.Common.{◌∙◌, sym, ap, token_model, added, macro_by, replaced_in, left_after_token}
use Rattle.cweb_files.proofs.Appending.{wrote_as}
use Rattle.cweb_out.proofs.AppendedParts.{wrote_err}
use Rattle.cweb_out.proofs.Ranges.{at_index}
use Rattle.cweb_out.proofs.printer.macros.write_other.Goals as goal

pub returns-in_err-write_spaced-clause-wrote : goal.returns-in_err-write_spaced-clause-wrote
returns-in_err-write_spaced-clause-wrote g c =
    wrote_err _ _ _ _ c.from_residual.result c.from_residual.ensures.0 (ap (added (macro_by (replaced_in
    c.args.store.now)) c.args.left)
    (sym (at_index c.args.store.now c.args.number (token_model c.token-token.result) c.token-token.ensures)))
    c.in_err-write_spaced.ensures.wrote

pub returns-clause-next : goal.returns-clause-next
returns-clause-next g c = c.after.ensures ∙ ap (left_after_token c.args.left)
    (sym (at_index c.args.store.now c.args.number (token_model c.token-token.result) c.token-token.ensures))

pub returns-clause-wrote : goal.returns-clause-wrote
returns-clause-wrote g c =
    wrote_as _ (ap (added (macro_by (replaced_in c.args.store.now)) c.args.left)
    (sym (at_index c.args.store.now c.args.number (token_model c.token-token.result) c.token-token.ensures)))
    c.in_ok-write_spaced.ensures.wrote
