-- Words of one byte, which are found by it.
use Rattle.cweb_store.proofs.Common.{◌≡◌, ℕ, ◌+◌, ◌≤◌, ◌<◌, ◌||◌, List, [], ◌∷◌, Some, inl, inr, set, refl, sym, subst, ◌∙◌, ap, arith, length, slice_get, slice_index_or, bytes_eq, IsByteId, AreByteIds, StringTableModel, AddsString, InternsWord, has_word}
use Rattle.cweb_store.proofs.ListLemmas.{get-set}
use Rattle.cweb_store.proofs.StringListLemmas.{get-grow}
use Rattle.cweb_store.proofs.TotalLemmas.{with-word-any}
use Rattle.cweb_store.proofs.InterningLemmas.{adds, known}

-- Interning a string keeps all byte ids valid.
pub byte_ids-string : (old new : StringTableModel) (byte_ids string : List ℕ) (number : ℕ)
    → AddsString old string number new
    → AreByteIds old byte_ids → AreByteIds new byte_ids
byte_ids-string old new byte_ids string number keeps are = λ byte n h.
    let sign = are byte n h in
    record {
      stored = ap (λ ts. slice_get ts n) keeps.grows ∙ get-grow old.strings keeps.more n (byte ∷ []) sign.stored;
      among = keeps.words (byte ∷ []) ∙ sign.among;
    }

has-more : (old new : StringTableModel) (word q : List ℕ) (number : ℕ) → InternsWord old word number new
    → has_word new q ≡ (has_word old q || bytes_eq q word)
has-more old new word q number keeps = keeps.words q ∙ with-word-any q old.words word

pub byte_ids-word : (old new : StringTableModel) (byte_ids word : List ℕ) (number : ℕ)
    → InternsWord old word number new
    → AreByteIds old byte_ids → AreByteIds new byte_ids
byte_ids-word old new byte_ids word number keeps are = λ byte n h.
    let sign = are byte n h in
    let more = adds old word number new keeps in
    record {
      stored = ap (λ ts. slice_get ts n) more.grows ∙ get-grow old.strings more.more n (byte ∷ []) sign.stored;
      among =
          has-more old new word (byte ∷ []) number keeps ∙ ap (λ b. b || bytes_eq (byte ∷ []) word) sign.among;
    }

-- The word that was just interned.
pub is-sign : (old new : StringTableModel) (byte number : ℕ) → InternsWord old (byte ∷ []) number new
    → IsByteId new byte number
is-sign old new byte number keeps = grind (arith, has-more old new (byte ∷ []) (byte ∷ []) number keeps)

pub byte_ids-set : (kept : StringTableModel) (byte_ids : List ℕ) (byte number : ℕ) → AreByteIds kept byte_ids
    → IsByteId kept byte number → AreByteIds kept (set byte_ids byte (number + 1))
byte_ids-set kept byte_ids byte number are is = λ k n h. elim (get-set byte_ids byte k (number + 1) (n + 1) h) [
  | inl e ↦ (let same : number ≡ n = omega (arith, e.1) in
      subst (λ b. IsByteId kept b n) (sym e.0) (subst (λ m. IsByteId kept byte m) same is))
  | inr o ↦ are k n o
]

-- A word with a known id.
pub sign-known : (kept : StringTableModel) (byte_ids : List ℕ) (byte number : ℕ) → AreByteIds kept byte_ids
    → slice_get byte_ids byte ≡ Some (number + 1) → InternsWord kept (byte ∷ []) number kept
sign-known kept byte_ids byte number are h = grind (arith, are byte number h, known kept (byte ∷ []) number)

-- A string of one byte.
pub one-byte : (string : List ℕ) (d : ℕ) → 1 ≤ length string → length string < 2
    → slice_index_or string 0 d ∷ [] ≡ string
one-byte [] d some few = absurd (let none : ⊥ = omega arith in none)
one-byte (b ∷ []) d some few = refl
one-byte (b ∷ c ∷ string) d some few = absurd (let none : ⊥ = omega arith in none)
