-- The spelling of a name, byte by byte.
use Rattle.cweb_store.proofs.Common.{◌≡◌, ◌<◌, ◌+◌, ℕ, zero, suc, cond, drop, length, Bool, sym, ◌∙◌, true, false, ◌&&◌, not, List, [], ◌∷◌, ◌++◌, refl, ap, if◌then◌else◌, arith}
use Rattle.std.proofs.Common.{◌==◌, one-add}
use Rattle.std.specs.Prelude.{codes}
use Rattle.cweb_rules.specs.Bytes.{is_white}
use Rattle.std.specs.List.{prefix_len}
use Rattle.cweb_store.specs.inner.Squeezing.{is_in_word, is_squeezed, is_squeezed_after}
use Rattle.cweb_store.specs.Names.{squeezed, squeezed_after}
use Rattle.std.proofs.lemmas.Bool.{and_parts}

abbrev pub is_some : List ℕ → Bool
is_some [] = false
is_some (b ∷ t) = true

abbrev pub squeezed_by : Bool → Bool → List ℕ → ℕ → List ℕ → List ℕ
squeezed_by white begun gap b t =
    elim white [
      | true ↦ squeezed_after begun (if begun then codes " " else []) t
      | false ↦ gap ++ b ∷ squeezed_after true [] t
    ]

abbrev pub fits_by : Bool → Bool → ℕ → List ℕ → Bool
fits_by white gap b t =
    elim white [ true ↦ not gap && (b == 32) && is_squeezed_after true t | false ↦ is_squeezed_after false t ]

-- The rest after a byte that isn't white, and after a space.
abbrev Stays : List ℕ → Type 0
Stays t = (is_squeezed_after false t ≡ true → squeezed_after true [] t ≡ t) ×
    (is_squeezed_after true t ≡ true → squeezed_after true (codes " ") t ≡ 32 ∷ t)

after_byte : (w : Bool) (b : ℕ) (t : List ℕ) → Stays t → fits_by w false b t ≡ true → squeezed_by w true [] b t ≡ b ∷ t
after_byte true b t s h = grind (arith, and_parts)
after_byte false b t s h = ap (λ u. b ∷ u) (s.0 h)

after_blank : (w : Bool) (b : ℕ) (t : List ℕ) → Stays t → fits_by w true b t ≡ true
    → squeezed_by w true (codes " ") b t ≡ 32 ∷ b ∷ t
after_blank true b t s h = cc
after_blank false b t s h = ap (λ u. 32 ∷ b ∷ u) (s.0 h)

stays : (t : List ℕ) → Stays t
stays [] = (λ h. refl, λ h. cc)
stays (b ∷ t) = grind (arith, stays t, after_byte, after_blank)

first_stays : (w : Bool) (b : ℕ) (t : List ℕ) → Stays t → fits_by w true b t ≡ true → squeezed_by w false [] b t ≡ b ∷ t
first_stays true b t s h = cc
first_stays false b t s h = ap (λ u. b ∷ u) (s.0 h)

pub squeezed_stays : (t : List ℕ) → is_squeezed t ≡ true → squeezed t ≡ t
squeezed_stays [] h = refl
squeezed_stays (b ∷ t) h = first_stays (is_white b) b t (stays t) h

-- The rest after a word, and what comes where no word begins.
pub after_word : (gap : Bool) (t : List ℕ) → 0 < prefix_len is_in_word t
    → is_squeezed_after gap t ≡ is_squeezed_after false (drop (prefix_len is_in_word t) t)
after_word gap [] some = absurd (let none : ⊥ = omega (arith, some) in none)
after_word gap (b ∷ t) some = by (is_white b) refl (after_word false t) some
  where
    n : ℕ
    n = prefix_len is_in_word t

    by : (v : Bool) → is_white b ≡ v → (0 < n → is_squeezed_after false t ≡ is_squeezed_after false (drop n t))
        → 0 < cond (not v) (1 + n) 0
        → fits_by v gap b t ≡ is_squeezed_after false (drop (cond (not v) (1 + n) 0) (b ∷ t))
    by true on rest some = absurd (let none : ⊥ = omega (arith, some) in none)
    by false off rest some = whole n refl rest ∙ sym (ap (λ k. is_squeezed_after false (drop k (b ∷ t))) (one-add n))
      where
        whole : (k : ℕ) → k ≡ n → (0 < n → is_squeezed_after false t ≡ is_squeezed_after false (drop n t))
            → is_squeezed_after false t ≡ is_squeezed_after false (drop n t)
        whole zero is rest = ap (λ k. is_squeezed_after false (drop k t)) is
        whole (suc k) is rest = rest (omega (arith, is))

pub no_word : (t : List ℕ) → prefix_len is_in_word t ≡ 0 → is_squeezed_after true t ≡ false
no_word [] none = refl
no_word (b ∷ t) none = grind (arith, is_white b)

pub word_ends : (t rest : List ℕ) (n : ℕ) → n ≡ prefix_len is_in_word t → 0 < n → rest ≡ drop n t
    → is_squeezed_after true t ≡ is_squeezed_after false rest
word_ends t rest n size some back = grind (arith, after_word true t)

-- The byte after a word is white space.
next_is_white : (t : List ℕ) (n b : ℕ) (u : List ℕ) → n ≡ prefix_len is_in_word t → drop n t ≡ b ∷ u → is_white b ≡ true
next_is_white [] n b u size is = cc
next_is_white (x ∷ t) n b u size is = by (is_white x) refl size (λ there. next_is_white t (prefix_len is_in_word t) b u refl there)
  where
    m : ℕ
    m = prefix_len is_in_word t

    by : (v : Bool) → is_white x ≡ v → n ≡ cond (not v) (1 + m) 0 → (drop m t ≡ b ∷ u → is_white b ≡ true)
        → is_white b ≡ true
    by true on size later =
        let same : x ∷ t ≡ b ∷ u = sym (ap (λ k. drop k (x ∷ t)) size) ∙ is in
        let byte : x ≡ b = cc in
        sym (ap is_white byte) ∙ on
    by false off size later = later (sym (ap (λ k. drop k (x ∷ t)) (size ∙ one-add m)) ∙ is)

pub not_a_space : (t : List ℕ) (n b : ℕ) (u : List ℕ) → n ≡ prefix_len is_in_word t → drop n t ≡ b ∷ u
    → (b == 32) ≡ false → is_squeezed_after false (b ∷ u) ≡ false
not_a_space t n b u size is other = grind (arith, next_is_white t n b u size is)

pub nothing_left : (t : List ℕ) → length t ≡ 0 → is_squeezed_after false t ≡ true
nothing_left [] none = refl
nothing_left (b ∷ t) none = absurd (let no : ⊥ = omega (arith, none) in no)
