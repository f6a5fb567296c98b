use Rattle.std.proofs.Common.{rules}
use Rattle.cweb_out.proofs.Common.{◌++◌, ◌∙◌, List, Some, ap, slice_range, sym, subst, take, arith, option_map, length-map, TokenBytesModel, token_bytes_model, Token, all_tokens, left_after_edge, blank_where}
use Rattle.cweb_out.proofs.TokenReaderSteps.{direct-at}
use Rattle.cweb_out.proofs.MacroLines.{range_more}
use Rattle.cweb_out.proofs.DirectPrefixes.{Passed, passed_more, passed_none, passed_same}
use Rattle.cweb_store.proofs.RangeLemmas.{range-none}
use Rattle.cweb_out.proofs.printer.Printer.put_range.Goals as goal

pub tokens-init : goal.tokens-init
tokens-init c = search (rules, range-none, passed_none)

pub direct-requires : goal.direct-requires
direct-requires c = grind (arith, length-map)

pub tokens-preserved : goal.tokens-preserved
tokens-preserved c =
    let p = c.args.self.now in
    let ts = all_tokens c.args.store.now.parts in
    let first = c.args.part.first in
    let n = c.tokens.reached.number in
    let direct = c.in-Some.direct in
    let l : TokenBytesModel = token_bytes_model direct in
    let mid = take c.tokens.reached.used c.tokens.bytes in
    let new = take c.in-Some-put_if_fits.used c.put_if_fits.new.bytes in
    let at = direct-at c.token_reader-token_reader.result ts n l c.token_reader-token_reader.ensures
    (c.direct.ensures ∙ ap (λ o. Some (option_map token_bytes_model o)) c.in-Some.is) in
    record {
      from = omega (arith, c.tokens.invariant.from);
      upto = omega (arith, c.tokens-test.true);
      size = c.put_if_fits.ensures.size;
      within = c.in-Some-put_if_fits.ensures.within.1;
      passed = subst (λ (us : List Token). Passed p us (left_after_edge direct.edge) (take c.args.used c.args.bytes.now)
          new) (sym (range_more ts first n at.token c.tokens.invariant.from at.there))
          (passed_more p (slice_range ts first n) c.tokens.reached.last at.token l
          (take c.args.used c.args.bytes.now) mid new c.tokens.invariant.passed at.direct
          (c.in-Some-put_if_fits.ensures.kept
          ∙ ap (λ a. mid ++ (blank_where a ++ l.string)) c.edge_is_apart-is_apart.ensures));
    }

pub returns-in_default-put_if_fits-clause-prints : goal.returns-in_default-put_if_fits-clause-prints
returns-in_default-put_if_fits-clause-prints c = grind (arith, passed_same)
