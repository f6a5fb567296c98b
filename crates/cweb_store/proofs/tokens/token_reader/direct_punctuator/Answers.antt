use Rattle.cweb_store.proofs.Common.{rules, ◌≡◌, true, is_known_edge}
use Rattle.cweb_store.proofs.StringListLemmas.{get-string}
use Rattle.cweb_store.proofs.DirectBytesLemmas.{sign-borrows}
use Rattle.cweb_store.proofs.tokens.token_reader.direct_punctuator.Goals as goal

pub returns-in_default : goal.returns-in_default
returns-in_default c =
    let t = c.string-string.result.now in
    let is_known : is_known_edge c.edge.result ≡ true = search rules in
    rw (get-string c.args.strings.now c.args.number t c.string-string.ensures)
    (sign-borrows t c.edge.result (c.edge.ensures t c.string-string.ensures) is_known)
