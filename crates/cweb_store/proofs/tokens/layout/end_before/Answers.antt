use Rattle.cweb_store.proofs.Common.{◌≡◌, suc, ◌-◌, arith, is_trailing, token_model}
use Rattle.cweb_store.proofs.LayoutLemmas.{trim-next}
use Rattle.cweb_store.proofs.LayoutStringLemmas.{trimmed-strings}
use Rattle.cweb_store.proofs.tokens.layout.end_before.Goals as goal

pub loop-end-preserved : goal.loop-end-preserved
loop-end-preserved c =
    let ts = c.args.tokens.now.tokens in
    let from = c.args.from in
    let test = is_trailing c.args.trailing in
    let k = c.loop-end.end - 1 in
    let t = token_model c.token.result in
    let next : suc k ≡ c.loop-end.end = omega (arith, c.loop-end-test.true) in
    record {
      within = omega (arith, c.loop-end.invariant.within);
      begins = λ n low all. omega (arith, c.loop-end-test.true, low);
      same = grind (
        arith,
        trim-next from test ts k t c.token.ensures (omega (arith, c.loop-end-test.true)),
        c.is_trailing.ensures,
        c.if-is_trailing.true,
        next,
        c.loop-end.invariant.same,
      );
    }

pub returns-else-is_trailing-clause-kept : goal.returns-else-is_trailing-clause-kept
returns-else-is_trailing-clause-kept c =
    let ts = c.args.tokens.now.tokens in
    let from = c.args.from in
    let test = is_trailing c.args.trailing in
    let k = c.loop-end.end - 1 in
    let t = token_model c.token.result in
    let next : suc k ≡ c.loop-end.end = omega (arith, c.loop-end-test.true) in
    grind (
      arith,
      trim-next from test ts k t c.token.ensures (omega (arith, c.loop-end-test.true)),
      c.is_trailing.ensures,
      c.if-is_trailing.false,
      next,
      c.loop-end.invariant.same,
    )

pub returns-else-is_trailing-clause-strings : goal.returns-else-is_trailing-clause-strings
returns-else-is_trailing-clause-strings c = grind (arith, trimmed-strings)

pub returns-after-loop-end-clause-strings : goal.returns-after-loop-end-clause-strings
returns-after-loop-end-clause-strings c = grind (arith, trimmed-strings)
