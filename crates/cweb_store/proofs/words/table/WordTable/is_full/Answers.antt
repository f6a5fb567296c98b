use Rattle.cweb_store.proofs.Common.{◌≡◌, ◌-◌, suc, sym, ◌∙◌, length, take, take-length, ap, arith, IsLink, home_bucket_of}
use Rattle.cweb_store.specs.inner.Words.{bucket_words}
use Rattle.cweb_store.proofs.NameLemmas.{prefix_at}
use Rattle.cweb_store.proofs.ChainLemmas.{bucket-before, bucket-step}
use Rattle.cweb_store.proofs.words.table.WordTable.is_full.Goals as goal

pub chain-init : goal.chain-init
chain-init c =
    let s = c.self.inside in
    let ws = s.words.items in
    let n = length s.heads.items in
    let bucket : c.home_bucket-bucket.result ≡ home_bucket_of c.args.key n =
    c.home_bucket-bucket.ensures.is ∙ ap (home_bucket_of c.args.key) (c.len.ensures ∙ s.heads.ok.0) in
    let first : IsLink ws n (home_bucket_of c.args.key n) c.link_at-link.result (length ws) =
    rw (c.link_at-link.ensures, c.as_slice.ensures.value, ← bucket)
    (c.self.invariant.from_bucket c.home_bucket-bucket.result) in
    record {
      within = first.within;
      few = omega arith;
      in_bucket = first.in_bucket;
      passed =
          omega (
            arith,
            bucket-before c.args.key n c.link_at-link.result (length ws) ws first,
            ap (λ xs. length (bucket_words c.args.key n xs)) (take-length ws),
          );
    }

pub chain-smaller : goal.chain-smaller
chain-smaller c =
    let ws = c.self.inside.words.items in
    let k = c.chain.link - 1 in
    let w = prefix_at ws k (omega (arith, c.chain-test.true, c.chain.invariant.within)) in
    omega (
      arith,
      (c.self.invariant.from_word k w.item w.there).within,
      rw c.as_slice-in-chain.ensures.value at c.link_at-link-in-chain.ensures,
      c.chain-test.true,
    )

pub chain-preserved : goal.chain-preserved
chain-preserved c =
    let s = c.self.inside in
    let ws = s.words.items in
    let n = length s.heads.items in
    let k = c.chain.link - 1 in
    let here : suc k ≡ c.chain.link = omega (arith, c.chain-test.true) in
    let w = prefix_at ws k (omega (arith, c.chain-test.true, c.chain.invariant.within)) in
    let inside = c.chain.invariant.in_bucket k w.item (sym here) w.there in
    let next : IsLink ws n (home_bucket_of c.args.key n) c.link_at-link-in-chain.result k =
    rw (c.link_at-link-in-chain.ensures, c.as_slice-in-chain.ensures.value, ← inside)
    (c.self.invariant.from_word k w.item w.there) in
    record {
      within = omega (arith, next.within, c.chain.invariant.within);
      few = omega (arith, c.if-count-lt-LONGEST_CHAIN.true);
      in_bucket = next.in_bucket;
      passed =
          omega (
            arith,
            c.chain.invariant.passed,
            bucket-step c.args.key n k c.link_at-link-in-chain.result ws w.item w.there inside next,
            ap (λ m. length (bucket_words c.args.key n (take m ws))) here,
          );
    }
