-- The last byte of a kind in a path, and words that name files.
use Rattle.cweb_tools.proofs.Common.{◌≡◌, ◌≢◌, ◌<◌, ◌+◌, ◌-◌, ℕ, suc, true, false, not, List, [], ◌∷◌, length, take, drop, get_or, None, Some, refl, sym, ◌∙◌, ap, eq-eqb, arith, ne_eqb, list_any_at, suffix_len_is, after_last, before_last, list_any, suffix_len, slice_get, ◌==◌, if◌then◌else◌, named_by, names_by, stem, is_dot, is_slash, same_Some}

-- The number of bytes after the last one of a kind.
after : (c : ℕ) (bs : List ℕ) (k : ℕ) → k < length bs → get_or bs k 0 ≡ c
    → ((i : ℕ) → k < i → i < length bs → get_or bs i 0 ≢ c) → suffix_len (λ b. not (b == c)) bs ≡ length bs - (k + 1)
after c bs k within is none =
    suffix_len_is (λ b. not (b == c)) bs (k + 1) 0 (omega (arith, within)) (λ i from l. ap not (ne_eqb _ c
    (none i (omega (arith, from)) l))) (λ _. ap not (eq-eqb _ c (ap (λ n. get_or bs n 0) (omega arith) ∙ is)))

all_after : (c : ℕ) (bs : List ℕ) → ((i : ℕ) → i < length bs → get_or bs i 0 ≢ c)
    → suffix_len (λ b. not (b == c)) bs ≡ length bs - 0
all_after c bs none = suffix_len_is (λ b. not (b == c)) bs 0 0
    (omega arith) (λ i from l. ap not (ne_eqb _ c (none i l))) (λ some. absurd (omega (arith, some)))

pub after_found : (c : ℕ) (bs : List ℕ) (k : ℕ) → k < length bs → get_or bs k 0 ≡ c
    → ((i : ℕ) → k < i → i < length bs → get_or bs i 0 ≢ c) → after_last (λ b. b == c) bs ≡ drop (k + 1) bs
after_found c bs k within is none = ap (λ n. drop n bs) (omega (arith, within, after c bs k within is none))

pub after_none : (c : ℕ) (bs : List ℕ) → ((i : ℕ) → i < length bs → get_or bs i 0 ≢ c)
    → after_last (λ b. b == c) bs ≡ bs
after_none c bs none =
    let all : length bs - suffix_len (λ b. not (b == c)) bs ≡ 0 = omega (arith, all_after c bs none) in
    ap (λ n. drop n bs) all

pub before_found : (c : ℕ) (bs : List ℕ) (k : ℕ) → k < length bs → get_or bs k 0 ≡ c
    → ((i : ℕ) → k < i → i < length bs → get_or bs i 0 ≢ c) → before_last (λ b. b == c) bs ≡ take k bs
before_found c bs k within is none = ap (λ n. take n bs) (omega (arith, within, after c bs k within is none))

pub has_found : (c : ℕ) (bs : List ℕ) (k : ℕ) → k < length bs → get_or bs k 0 ≡ c → list_any (λ b. b == c) bs ≡ true
has_found c bs k within is = list_any_at (λ b. b == c) bs k 0 within (eq-eqb _ c is)

pub has_none : (c : ℕ) (bs : List ℕ) → ((i : ℕ) → i < length bs → get_or bs i 0 ≢ c) → list_any (λ b. b == c) bs ≡ false
has_none c [] none = refl
has_none c (b ∷ bs) none =
    rw (ne_eqb b c (none 0 (omega arith)), has_none c bs (λ i l. none (suc i) (omega (arith, l)))) refl

pub stem_found : (word part : List ℕ) (k : ℕ) → part ≡ after_last is_slash word → k < length part → get_or part k 0 ≡ 46
    → ((i : ℕ) → k < i → i < length part → get_or part i 0 ≢ 46) → take k part ≡ stem word
stem_found word part k is within at none =
    sym (ap (λ p. if list_any is_dot p then before_last is_dot p else p) (sym is) ∙ ap (λ has. if
    has then before_last is_dot part else part) (has_found 46 part k within at) ∙ before_found 46 part k within at none)

pub stem_whole : (word part : List ℕ) → part ≡ after_last is_slash word
    → ((i : ℕ) → i < length part → get_or part i 0 ≢ 46) → part ≡ stem word
stem_whole word part is none = sym (ap (λ p. if list_any is_dot p then before_last is_dot p else p) (sym is)
    ∙ ap (λ has. if has then before_last is_dot part else part) (has_none 46 part none))

pub names_at : (words : List (List ℕ)) (web : List ℕ) → slice_get words 0 ≡ Some web → slice_get words 3 ≡ None
    → names_by words ≡ named_by web (slice_get words 1) (slice_get words 2)
names_at [] web is few = absurd (grind (arith, is))
names_at (first ∷ []) web is few = ap (λ w. named_by w None None) (same_Some first web is)
names_at (first ∷ change ∷ []) web is few = ap (λ w. named_by w (Some change) None) (same_Some first web is)
names_at (first ∷ change ∷ out ∷ []) web is few = ap (λ w. named_by w (Some change) (Some out)) (same_Some first web is)
names_at (first ∷ change ∷ out ∷ more ∷ rest) web is few = absurd (grind (arith, few))
