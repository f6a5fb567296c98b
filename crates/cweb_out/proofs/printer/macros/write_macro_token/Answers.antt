use Rattle.cweb_out.proofs.Common.{◌∙◌, sym, ap, Some, option_map, token_bytes_model}
use Rattle.cweb_files.proofs.Appending.{wrote_as}
use Rattle.cweb_out.proofs.AppendedParts.{wrote_err}
use Rattle.cweb_out.proofs.Continued.{direct_added, direct_leaves}
use Rattle.cweb_out.proofs.printer.macros.write_macro_token.Goals as goal

pub returns-in_err-write_direct-clause-wrote : goal.returns-in_err-write_direct-clause-wrote
returns-in_err-write_direct-clause-wrote g c =
    let l = token_bytes_model c.in-false-Some.direct in
    let is = c.direct.ensures ∙ ap (λ o. Some (option_map token_bytes_model o)) c.in-false-Some.is-1 in
    wrote_err _ _ _ _ c.from_residual.result c.from_residual.ensures.0 (sym (direct_added c.args.store.now c.args.left
    c.args.number l c.in-false-Some.is-0
    c.args.token_reader.now c.requires.reader is))
    c.in_err-write_direct.ensures.wrote

pub returns-in-false-Some-clause-next : goal.returns-in-false-Some-clause-next
returns-in-false-Some-clause-next g c =
    let l = token_bytes_model c.in-false-Some.direct in
    let is = c.direct.ensures ∙ ap (λ o. Some (option_map token_bytes_model o)) c.in-false-Some.is-1 in
    sym (direct_leaves c.args.store.now c.args.left c.args.number l c.in-false-Some.is-0
    c.args.token_reader.now c.requires.reader is)

pub returns-in-false-Some-clause-wrote : goal.returns-in-false-Some-clause-wrote
returns-in-false-Some-clause-wrote g c =
    let l = token_bytes_model c.in-false-Some.direct in
    let is = c.direct.ensures ∙ ap (λ o. Some (option_map token_bytes_model o)) c.in-false-Some.is-1 in
    wrote_as _ (sym (direct_added c.args.store.now c.args.left c.args.number l c.in-false-Some.is-0
    c.args.token_reader.now c.requires.reader is)) c.in_ok-write_direct.ensures.wrote
