-- The chains of a hash table, where a word is linked.
use Rattle.cweb_store.proofs.Common.{◌≡◌, ℕ, zero, suc, ◌+◌, ◌-◌, ◌≤◌, ◌<◌, Bool, true, List, [], ◌∷◌, Some, refl, arith, eq-eqb, eqb-true, filter, take, length, nat_eq, slice_get, IsLink, home_bucket_of, Key}
use Rattle.cweb_store.specs.inner.Words.{bucket_words}
use Rattle.cweb_store.specs.declared.words.word.Word.{Word}

-- all words of the bucket from the next link on are others, where those from a link on are
pub next-passed : (other : Word → Type 0) (ws : List Word) (buckets bucket link next : ℕ) (w : Word)
    → IsLink ws buckets bucket next (link - 1) → slice_get ws (link - 1) ≡ Some w → other w
    → ((k : ℕ) (v : Word) → slice_get ws k ≡ Some v → link ≤ k → home_bucket_of v.key buckets ≡ bucket → other v)
    → (k : ℕ) (v : Word) → slice_get ws k ≡ Some v → next ≤ k → home_bucket_of v.key buckets ≡ bucket → other v
next-passed other ws buckets bucket link next w l at is passed k v there from inside =
    grind (arith, at, is, l.latest, passed k v)

-- No word that passes is between two places.
none-between : (p : Word → Bool) (ws : List Word) (link count : ℕ) → link ≤ count
    → ((k : ℕ) (w : Word) → slice_get ws k ≡ Some w → p w ≡ true → k < count → k < link)
    → length (filter p (take count ws)) ≡ length (filter p (take link ws))
none-between p [] zero zero le none = refl
none-between p [] zero (suc c) le none = refl
none-between p [] (suc l) zero le none = refl
none-between p [] (suc l) (suc c) le none = refl
none-between p (w ∷ ws) zero zero le none = refl
none-between p (w ∷ ws) (suc l) zero le none = absurd (let no : ⊥ = omega arith in no)
none-between p (w ∷ ws) zero (suc c) le none =
    let rest = none-between p ws zero c (omega arith) (λ k v there is less.
    absurd (let no : ⊥ = omega (arith, none (suc k) v there is (omega arith)) in no)) in
    let out : p w ≡ true → ⊥ = λ is. (let no : ⊥ = omega (arith, none zero w refl is (omega arith)) in no) in
    grind (arith, rest, p w, out)
none-between p (w ∷ ws) (suc l) (suc c) le none =
    let rest = none-between p ws l c (omega arith) (λ k v there is less.
    omega (arith, none (suc k) v there is (omega arith))) in
    grind (arith, rest, p w)

one-more : (p : Word → Bool) (ws : List Word) (k : ℕ) (w : Word) → slice_get ws k ≡ Some w → p w ≡ true
    → length (filter p (take (suc k) ws)) ≡ length (filter p (take k ws)) + 1
one-more p [] k w there is = cc
one-more p (v ∷ ws) zero w there is = grind (arith, there, is, p v)
one-more p (v ∷ ws) (suc k) w there is = grind (arith, p v, one-more p ws k w there is)

-- All words of a bucket are before the link to the latest one.
pub bucket-before : (key : Key) (n link count : ℕ) (ws : List Word) → IsLink ws n (home_bucket_of key n) link count
    → length (bucket_words key n (take count ws)) ≡ length (bucket_words key n (take link ws))
bucket-before key n link count ws is =
    none-between (λ (w : Word). nat_eq (home_bucket_of w.key n) (home_bucket_of key n)) ws link count is.within
    (λ k w there passes less. is.latest k w there
    (eqb-true (home_bucket_of w.key n) (home_bucket_of key n) passes) less)

-- The word that a link leads to is one more of its bucket.
pub bucket-step : (key : Key) (n k next : ℕ) (ws : List Word) (w : Word) → slice_get ws k ≡ Some w
    → home_bucket_of w.key n ≡ home_bucket_of key n → IsLink ws n (home_bucket_of key n) next k
    → length (bucket_words key n (take (suc k) ws)) ≡ length (bucket_words key n (take next ws)) + 1
bucket-step key n k next ws w there inside is =
    let p : Word → Bool = λ (w : Word). nat_eq (home_bucket_of w.key n) (home_bucket_of key n) in
    omega (
      arith,
      one-more p ws k w there (eq-eqb (home_bucket_of w.key n) (home_bucket_of key n) inside),
      bucket-before key n next k ws is,
    )
