use Rattle.cweb_store.proofs.Common.{◌≡◌, ◌-◌, false, Some, length, sym, ◌∙◌, ap, arith, slice_get, slice_get-get_or, bytes_eq, IsLink, word_string, home_bucket_of, subst, DescribeStrings}
use Rattle.cweb_store.specs.inner.Words.{WordTableModel}
use Rattle.cweb_store.proofs.TableLemmas.{found-word, no-word-found}
use Rattle.cweb_store.proofs.ChainLemmas.{next-passed}
use Rattle.cweb_store.proofs.words.table.WordTable.find.Goals as goal

pub returns-then-is : goal.returns-then-is
returns-then-is c =
    let ws = c.self.inside.words.items in
    let k = c.chain.link - 1 in
    let w = c.index-candidate.result.now in
    let there : slice_get ws k ≡ Some w =
    slice_get-get_or ws k w (omega arith) ∙ ap Some (sym c.index-candidate.ensures) in
    rw (← c.self.view_is) (found-word c.args.strings.now ws c.args.word.now k w
    (subst (λ (v : WordTableModel). DescribeStrings c.args.strings.now v.words) (sym c.self.view_is)
    c.requires.describe) there (sym c.if-is.ensures))

pub chain-smaller : goal.chain-smaller
chain-smaller c =
    let ws = c.self.inside.words.items in
    let k = c.chain.link - 1 in
    let w = c.index-candidate.result.now in
    let there : slice_get ws k ≡ Some w =
    slice_get-get_or ws k w (omega arith) ∙ ap Some (sym c.index-candidate.ensures) in
    omega (
      arith,
      (c.self.invariant.from_word k w there).within,
      rw c.as_slice-in-chain.ensures.value at c.link_at-link-in-chain.ensures,
    )

pub chain-preserved : goal.chain-preserved
chain-preserved c =
    let ws = c.self.inside.words.items in
    let buckets = length c.self.inside.heads.items in
    let k = c.chain.link - 1 in
    let w = c.index-candidate.result.now in
    let there : slice_get ws k ≡ Some w =
    slice_get-get_or ws k w (omega arith) ∙ ap Some (sym c.index-candidate.ensures) in
    let inside = c.chain.invariant.in_bucket k w (omega (arith, c.chain-test.true)) there in
    let next : IsLink ws buckets (home_bucket_of c.args.key buckets) c.link_at-link-in-chain.result k =
    rw (c.link_at-link-in-chain.ensures, c.as_slice-in-chain.ensures.value, ← inside)
    (c.self.invariant.from_word k w there) in
    record {
      within = omega (arith, next.within);
      in_bucket = next.in_bucket;
      passed = next-passed (λ v. bytes_eq c.args.word.now (word_string c.args.strings.now v) ≡ false) ws buckets
          (home_bucket_of c.args.key buckets) c.chain.link c.link_at-link-in-chain.result w next there
          (sym c.if-is.ensures)
          c.chain.invariant.passed;
    }

pub returns : goal.returns
returns c =
    let ws = c.self.inside.words.items in
    let buckets = length c.self.inside.heads.items in
    rw (← c.self.view_is) (no-word-found c.args.strings.now ws c.args.word.now buckets
    (subst (λ (v : WordTableModel). DescribeStrings c.args.strings.now v.words) (sym c.self.view_is)
    c.requires.describe) (λ k w there inside. c.chain.invariant.passed k w there (omega arith)
    (inside ∙ ap (λ x. home_bucket_of x buckets) (sym c.requires.key))))
