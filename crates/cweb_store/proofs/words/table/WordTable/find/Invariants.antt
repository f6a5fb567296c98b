use Rattle.cweb_store.proofs.Common.{◌≡◌, ◌≤◌, ℕ, suc, false, Some, length, slice_get, bytes_eq, word_string, home_bucket_of}
use Rattle.cweb_store.specs.declared.words.word.Word.{Word}
use Rattle.cweb_store.proofs.words.table.WordTable.find.Given as goal

-- the words of the bucket from the link on are other words
abbrev pub invariant-chain : goal.invariant-chain
invariant-chain l = record {
  within : l.link ≤ length l.self-inside.words.items;
  in_bucket : (k : ℕ) (w : Word) → l.link ≡ suc k → slice_get l.self-inside.words.items k ≡ Some w
      → home_bucket_of w.key (length l.self-inside.heads.items)
      ≡ home_bucket_of l.key (length l.self-inside.heads.items);
  passed : (k : ℕ) (w : Word) → slice_get l.self-inside.words.items k ≡ Some w → l.link ≤ k
      → home_bucket_of w.key (length l.self-inside.heads.items)
      ≡ home_bucket_of l.key (length l.self-inside.heads.items)
      → bytes_eq l.word (word_string l.strings w) ≡ false;
}

abbrev pub decreases-chain : goal.decreases-chain
decreases-chain l = l.link
