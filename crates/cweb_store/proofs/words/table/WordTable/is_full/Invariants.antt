use Rattle.cweb_store.proofs.Common.{◌≡◌, ◌+◌, ◌≤◌, ℕ, suc, Some, length, take, slice_get, home_bucket_of}
use Rattle.cweb_store.specs.declared.words.word.Word.{Word}
use Rattle.cweb_store.specs.inner.Words.{bucket_words, longest_chain}
use Rattle.cweb_store.proofs.words.table.WordTable.is_full.Given as goal

-- the words of the bucket before the link are those that were not passed
abbrev pub invariant-chain : goal.invariant-chain
invariant-chain l = record {
  within : l.link ≤ length l.self-inside.words.items;
  few : l.count ≤ longest_chain;
  in_bucket : (k : ℕ) (w : Word) → l.link ≡ suc k → slice_get l.self-inside.words.items k ≡ Some w
      → home_bucket_of w.key (length l.self-inside.heads.items)
      ≡ home_bucket_of l.fn.key (length l.self-inside.heads.items);
  passed : length (bucket_words l.fn.key (length l.self-inside.heads.items) l.self-inside.words.items)
      ≡ length (bucket_words l.fn.key (length l.self-inside.heads.items) (take l.link l.self-inside.words.items)) + l.count;
}

abbrev pub decreases-chain : goal.decreases-chain
decreases-chain l = l.link
