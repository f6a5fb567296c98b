use Rattle.cweb_store.proofs.Common.{◌∙◌, ap, arith, subst, List, flat_map, Token, token_strings, interned_token_bytes, AreInOneList}
use Rattle.cweb_store.proofs.StoredStringLemmas.{holds}
use Rattle.cweb_store.proofs.store.text_bytes.Goals as goal

pub returns : goal.returns
returns c =
    let n = c.text_bytes-3 in
    let tokens = c.tokens.ensures.tokens in
    let all = holds n.result c.text_bytes.result c.text_bytes-2.result c.args.occurrences.now c.args.parts.now
    c.args.replacements.now
    (subst (λ (ts : List Token). AreInOneList n.result (flat_map token_strings ts)) tokens n.ensures.strings)
    (n.ensures.once ∙ ap interned_token_bytes tokens)
    c.text_bytes.ensures.strings c.text_bytes.ensures.once c.text_bytes-2.ensures.strings
    c.text_bytes-2.ensures.bytes in
    grind (arith, all, c.checked_add.ensures)
