-- Following the links visits exactly the wanted parts.
use Rattle.cweb_store.proofs.Common.{◌||◌, nat_lt, list_any, is_of, has_head, NameId, ◌≡◌, ℕ, zero, suc, ◌+◌, ◌-◌, ◌≤◌, Bool, true, false, List, [], ◌∷◌, Some, length, drop, ◌++◌, get_or, refl, ◌∙◌, ap, arith, length-drop, slice_get, if◌then◌else◌, take_all, PartRange, Resolution, followed, AreLinked, slice_range}
use Rattle.std.proofs.Common.{reverse, drop-cons}
use Rattle.std.proofs.lemmas.List.{reverse-append}
use Rattle.cweb_store.specs.declared.parts.iter.Wanted.{Wanted}
use Rattle.cweb_store.specs.declared.parts.iter.Wanted.TheVariants.{OfName}
use Rattle.cweb_store.specs.declared.parts.links.Heads.{Heads}
use Rattle.cweb_store.specs.inner.Stored.{head_of, IsPut, wanted_in}

put-within : (ranges n m : ℕ) (b : Bool) → n ≡ (if b then ranges + 1 else m) → m ≤ ranges → n ≤ ranges + 1
put-within ranges n m true is le = omega arith
put-within ranges n m false is le = omega arith

head-some : (b : Bool) (ranges h : ℕ) → nat_lt 0 (if b then ranges + 1 else h) ≡ (b || nat_lt 0 h)
head-some true ranges h = grind arith
head-some false ranges h = refl

put-some : (rs : List Resolution) (r : PartRange) (ranges : List PartRange) (skips : List ℕ) (old : Heads) (skip : ℕ)
    (new : Heads) (n : NameId) → IsPut rs r.kind (length ranges) old skip new → AreLinked rs ranges skips old
    → has_head new n ≡ (is_of rs n r.kind || list_any (λ (r : PartRange). is_of rs n r.kind) ranges)
put-some rs r ranges skips old skip new n put linked = ap (nat_lt 0) (put.heads (OfName n))
    ∙ head-some (is_of rs n r.kind) (length ranges) (head_of old (OfName n))
    ∙ ap (λ b. is_of rs n r.kind || b) (linked.some n)

put-visits : (rs : List Resolution) (r : PartRange) (ranges : List PartRange) (skips : List ℕ) (old : Heads) (skip : ℕ)
    (new : Heads) (w : Wanted) → IsPut rs r.kind (length ranges) old skip new → AreLinked rs ranges skips old
    → (head_of new w ≤ length (r ∷ ranges))
    × (followed (r ∷ ranges) (skip ∷ skips) (length (r ∷ ranges) - head_of new w) ≡ wanted_in rs w (r ∷ ranges))
put-visits rs r ranges skips old skip new w put linked = grind (arith, put-within)

-- One more part at the head.
pub put-linked : (rs : List Resolution) (r : PartRange) (ranges : List PartRange)
    (skips : List ℕ) (old : Heads) (skip : ℕ) (new : Heads) → IsPut rs r.kind (length ranges) old skip new
    → AreLinked rs ranges skips old → AreLinked rs (r ∷ ranges) (skip ∷ skips) new
put-linked rs r ranges skips old skip new put linked = record {
  within = λ w. (put-visits rs r ranges skips old skip new w put linked).0;
  follow = λ w. (put-visits rs r ranges skips old skip new w put linked).1;
  some = λ n. put-some rs r ranges skips old skip new n put linked;
}

-- The first visited part, and the parts after it.
pub followed-none : (ranges : List PartRange) (skips : List ℕ) (n : ℕ) → length ranges ≤ n
    → followed ranges skips n ≡ []
followed-none [] skips n h = refl
followed-none (r ∷ ranges) [] n h = refl
followed-none (r ∷ ranges) (skip ∷ skips) zero h = absurd (let none : ⊥ = omega arith in none)
followed-none (r ∷ ranges) (skip ∷ skips) (suc n) h = followed-none ranges skips n (omega arith)

pub followed-ended : (ranges : List PartRange) (skips : List ℕ) (n : ℕ) → length skips ≤ n
    → followed ranges skips n ≡ []
followed-ended [] skips n h = refl
followed-ended (r ∷ ranges) [] n h = refl
followed-ended (r ∷ ranges) (skip ∷ skips) zero h = absurd (let none : ⊥ = omega arith in none)
followed-ended (r ∷ ranges) (skip ∷ skips) (suc n) h = followed-ended ranges skips n (omega arith)

pub followed-some : (ranges : List PartRange) (skips : List ℕ) (n : ℕ) (r : PartRange) (skip : ℕ)
    → slice_get ranges n ≡ Some r → slice_get skips n ≡ Some skip
    → followed ranges skips n ≡ r.part ∷ followed (drop (suc n) ranges) (drop (suc n) skips) skip
followed-some (x ∷ ranges) (k ∷ skips) (suc n) r skip here there = followed-some ranges skips n r skip here there
followed-some _ _ _ r skip here there = cc

range-end : {X : Type 0} (xs : List X) (n : ℕ) → drop (suc n) xs ≡ slice_range xs (n + 1) (length xs)
range-end xs n = grind (arith, take_all, length-drop)

pub followed-next : (ranges : List PartRange) (skips : List ℕ) (n : ℕ) (r : PartRange) (skip : ℕ)
    → slice_get ranges n ≡ Some r → slice_get skips n ≡ Some skip → followed ranges skips n
    ≡ r.part ∷ followed (slice_range ranges (n + 1) (length ranges)) (slice_range skips (n + 1) (length skips)) skip
followed-next ranges skips n r skip here there = grind (arith, followed-some, there, range-end)

-- One more part at the head, since links are built from the last part backwards.
pub step-linked : (rs : List Resolution) (ranges : List PartRange) (i after skip : ℕ) (d : PartRange)
    (kept more : List ℕ) (old new : Heads) → suc i + after ≡ length ranges
    → IsPut rs (get_or ranges i d).kind after old skip new → more ≡ kept ++ skip ∷ []
    → AreLinked rs (drop (suc i) ranges) (reverse kept) old → AreLinked rs (drop i ranges) (reverse more) new
step-linked rs ranges i after skip d kept more old new count put is linked =
    grind (arith, length-drop, drop-cons, reverse-append, put-linked, reverse)
