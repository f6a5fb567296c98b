-- The key of a word, by its length.
use Rattle.cweb_store.proofs.Common.{◌≡◌, ℕ, zero, suc, ◌+◌, ◌-◌, ◌<◌, ◌≤◌, true, false, List, [], ◌∷◌, ◌++◌, length, take, drop, get_or, refl, sym, ◌∙◌, ap, arith, length-drop, nat_lt, slice_range, w32, w64, from_le_bytes, take_all, take-append-drop, drop-drop, same_number_lists, le_bytes_4, le_bytes_8, length-take-le, Key, AreBytes, short_key, middle_key, long_key, hashed_key}
use Rattle.cweb_store.specs.inner.Words.{key_of}

less : (n m : ℕ) → n < m → nat_lt n m ≡ true
less n m h = grind (arith, h)

not-less : (n m : ℕ) → m ≤ n → nat_lt n m ≡ false
not-less n m h = grind (arith, h)

-- the last bytes
pub tail : (word : List ℕ) (n : ℕ) → slice_range word n (length word) ≡ drop n word
tail word n = take_all (length word - n) (drop n word) (omega (arith, length-drop n word))

pub key-short : (word : List ℕ) → length word < 4 → key_of word ≡ short_key word
unfolding key_of
key-short word h = cc (less (length word) 4 h)

pub key-middle : (word : List ℕ) → 4 ≤ length word → length word < 8 → key_of word ≡ middle_key word
unfolding key_of
key-middle word h g = cc (not-less (length word) 4 h, less (length word) 8 g)

pub key-long : (word : List ℕ) → 8 ≤ length word → length word ≤ 16 → key_of word ≡ long_key word
unfolding key_of
key-long word h g = grind (arith, not-less, word)

pub key-hashed : (word : List ℕ) → 16 < length word → key_of word ≡ hashed_key word
unfolding key_of
key-hashed word h = grind (arith, not-less, less)

-- A key tells a word of at most 16 bytes by its length.
take-bytes : (n : ℕ) (bytes : List ℕ) → AreBytes bytes → AreBytes (take n bytes)
take-bytes n bytes all = λ i. at n bytes i all
  where
    at : (n : ℕ) (bytes : List ℕ) (i : ℕ) → AreBytes bytes → get_or (take n bytes) i 0 < 256
    at zero [] i all = omega arith
    at zero (b ∷ bs) i all = omega arith
    at (suc n) [] i all = omega arith
    at (suc n) (b ∷ bs) zero all = all 0
    at (suc n) (b ∷ bs) (suc i) all = at n bs i (λ k. all (suc k))

drop-bytes : (n : ℕ) (bytes : List ℕ) → AreBytes bytes → AreBytes (drop n bytes)
drop-bytes zero bytes all = all
drop-bytes (suc n) [] all = all
drop-bytes (suc n) (b ∷ bs) all = drop-bytes n bs (λ k. all (suc k))

eight-same : (a b : List ℕ) → length a ≡ 8 → length b ≡ 8 → AreBytes a → AreBytes b
    → from_le_bytes w64 a ≡ from_le_bytes w64 b → a ≡ b
eight-same a b long_a long_b all_a all_b same =
    sym (le_bytes_8 a (from_le_bytes w64 a) long_a all_a refl) ∙ le_bytes_8 b (from_le_bytes w64 a) long_b all_b same

four-same : (a b : List ℕ) → length a ≡ 4 → length b ≡ 4 → AreBytes a → AreBytes b
    → from_le_bytes w32 a ≡ from_le_bytes w32 b → a ≡ b
four-same a b long_a long_b all_a all_b same =
    sym (le_bytes_4 a (from_le_bytes w32 a) long_a all_a refl) ∙ le_bytes_4 b (from_le_bytes w32 a) long_b all_b same

-- the first n bytes and the last n of at most 2 n
ends-same : (q w : List ℕ) (n : ℕ) → length q ≡ length w → n ≤ length q → length q ≤ n + n
    → take n q ≡ take n w → drop (length q - n) q ≡ drop (length w - n) w → q ≡ w
ends-same q w n len long few prefix back =
    let k = length q - n in
    let k_is : k ≡ length w - n = omega (arith, len) in
    let whole : k + (n - k) ≡ n = omega (arith, long, few) in
    let rest : drop n q ≡ drop n w =
    ap (λ m. drop m q) (sym whole) ∙ sym (drop-drop (n - k) k q)
    ∙ ap (drop (n - k)) (back ∙ ap (λ m. drop m w) (sym k_is))
    ∙ drop-drop (n - k) k w ∙ ap (λ m. drop m w) whole in
    sym (take-append-drop n q) ∙ (λ i. prefix i ++ rest i) ∙ take-append-drop n w

short-same : (q w : List ℕ) → length q ≡ length w → length q < 4 → AreBytes q → AreBytes w
    → short_key q ≡ short_key w → q ≡ w
short-same q w len few all_q all_w same = grind (arith, same_number_lists)

-- The number of n bytes tells them, so those of the first n and the last n tell up to 2 n bytes.
parts-same : (n : ℕ) (number : List ℕ → ℕ) → ((a b : List ℕ) → length a ≡ n → length b ≡ n → AreBytes a → AreBytes b
    → number a ≡ number b → a ≡ b) → (q w : List ℕ) → length q ≡ length w → n ≤ length q → length q ≤ n + n
    → AreBytes q → AreBytes w → number (take n q) ≡ number (take n w)
    → number (drop (length q - n) q) ≡ number (drop (length w - n) w) → q ≡ w
parts-same n number one q w len long few all_q all_w first last =
    grind (arith, ends-same, long, few, length-take-le, take-bytes, length-drop, drop-bytes)

middle-same : (q w : List ℕ) → length q ≡ length w → 4 ≤ length q → length q < 8 → AreBytes q → AreBytes w
    → middle_key q ≡ middle_key w → q ≡ w
middle-same q w len long few all_q all_w same = parts-same 4 (from_le_bytes w32) four-same q w len long
    (omega (arith, few)) all_q all_w (ap (λ (x : Key). x.first) same) (ap (λ (x : Key). x.last) same)

long-same : (q w : List ℕ) → length q ≡ length w → 8 ≤ length q → length q ≤ 16 → AreBytes q → AreBytes w
    → long_key q ≡ long_key w → q ≡ w
long-same q w len long few all_q all_w same = parts-same 8 (from_le_bytes w64) eight-same q w len long
    few all_q all_w (ap (λ (x : Key). x.first) same) (ap (λ (x : Key). x.last) same)

pub key-tells : (q w : List ℕ) → length q ≡ length w → length q ≤ 16 → AreBytes q → AreBytes w
    → key_of q ≡ key_of w → q ≡ w
key-tells q w len few all_q all_w same =
    grind (
      arith,
      nat_lt (length q) 4,
      nat_lt (length q) 8,
      len,
      few,
      same,
      key-short,
      key-middle,
      key-long,
      short-same q w len,
      middle-same q w len,
      long-same q w len,
    )
