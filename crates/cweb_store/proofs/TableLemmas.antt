-- Words and their strings.
use Rattle.cweb_store.proofs.Common.{◌≡◌, ℕ, zero, suc, true, false, List, [], ◌∷◌, ◌++◌, map, Some, refl, arith, slice_get, bytes_eq, bytes_decides, any_passes_from_place, word_string, have_string, DescribesString, DescribeStrings, FindsString}
use Rattle.cweb_store.specs.declared.words.word.Word.{Word}
use Rattle.std.proofs.lemmas.Option.{slice_get-map}
use Rattle.cweb_store.specs.inner.Words.{key_of, home_bucket_of}
use Rattle.cweb_store.proofs.StringListLemmas.{get-grow, get-string}

abbrev pub describes-grow : (strings more : List (List ℕ)) (w : Word) → DescribesString strings w
    → DescribesString (strings ++ more) w
describes-grow strings more w h = record {
  string = h.string;
  there = get-grow strings more w.number h.string h.there;
  len = h.len;
  key = h.key;
  bytes = h.bytes;
}

-- more strings
pub same-strings : (strings more : List (List ℕ)) (ws : List Word) → DescribeStrings strings ws
    → map (word_string (strings ++ more)) ws ≡ map (word_string strings) ws
same-strings strings more [] h = refl
same-strings strings more (w ∷ ws) h =
    let rest = same-strings strings more ws (λ k v there. h (suc k) v there) in
    grind (
      arith,
      h zero w refl,
      get-grow strings more w.number,
      get-string (strings ++ more) w.number,
      get-string strings w.number,
      rest,
    )

-- a word that is found
pub found-word : (strings : List (List ℕ)) (ws : List Word) (word : List ℕ) (k : ℕ) (w : Word)
    → DescribeStrings strings ws → slice_get ws k ≡ Some w → bytes_eq word (word_string strings w) ≡ true
    → FindsString strings ws word w.number
found-word strings ws word k w describe there is =
    grind (
      arith,
      describe k w there,
      any_passes_from_place (bytes_eq word) (map (word_string strings) ws) k (word_string strings w),
      slice_get-map (word_string strings) ws k,
      bytes_decides word (word_string strings w),
      get-string strings w.number,
    )

-- a word that is not found: it would be in the bucket of its key
other-word : (strings : List (List ℕ)) (w : Word) (word : List ℕ) (buckets : ℕ) → DescribesString strings w
    → (home_bucket_of w.key buckets ≡ home_bucket_of (key_of word) buckets
    → bytes_eq word (word_string strings w) ≡ false)
    → bytes_eq word (word_string strings w) ≡ false
other-word strings w word buckets d h =
    grind (arith, bytes_decides word (word_string strings w), get-string strings w.number d.string d.there, d.key, h)

pub no-word-found : (strings : List (List ℕ)) (ws : List Word) (word : List ℕ) (buckets : ℕ)
    → DescribeStrings strings ws
    → ((k : ℕ) (w : Word) → slice_get ws k ≡ Some w
    → home_bucket_of w.key buckets ≡ home_bucket_of (key_of word) buckets
    → bytes_eq word (word_string strings w) ≡ false) → have_string strings ws word ≡ false
no-word-found strings [] word buckets describe h = refl
no-word-found strings (w ∷ ws) word buckets describe h =
    grind (
      arith,
      other-word strings w word buckets (describe zero w refl) (h zero w refl),
      no-word-found strings ws word buckets (λ k v there. describe (suc k) v there) (λ k v there. h (suc k) v there),
    )
