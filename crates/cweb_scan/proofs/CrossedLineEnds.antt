-- Items over line ends: the last unit in a line may end with its newline.
use Rattle.cweb_scan.proofs.Common.{◌≡◌, ◌≤◌, ◌<◌, ℕ, zero, suc, ◌+◌, ◌-◌, true, List, [], ◌∷◌, ◌++◌, length, take, drop, refl, ap, sym, ◌∙◌, arith, append_assoc, length-append, take-append-drop, flat_map, flat_map-append, Look, Goes, Ends, look_in_literal, Reach, reach, reach_in, body, reach_size, with_unit, End, Cut, Open, is_unclosed, IsLocal, IsEnd, AtLineEnd}
use Rattle.cweb_rules.specs.inner.LineItems.{goes_on}
use Rattle.cweb_rules.proofs.Looks.{IsWithin, AllWithin, literal-local}
use Rattle.cweb_scan.proofs.Ends.{at_start}

-- What is next is known by the line, and no unit extends over more than the newline.
pub record CrossesNewline (look : List ℕ → Look) : Type 0 where
  pub local : (line : List ℕ) → IsLocal look (10 ∷ line)
  pub same : (line : List ℕ) → look (10 ∷ line) ≡ look (10 ∷ [])
  pub newline : IsWithin (look (10 ∷ [])) 1
  pub within : (b : ℕ) (t : List ℕ) → IsWithin (look (b ∷ t)) (length (b ∷ t) + 1)

-- If no unit extends over the newline.
pub crosses : (look : List ℕ → Look) → AllWithin look → ((more : List ℕ) → AtLineEnd more → IsLocal look more)
    → ((line : List ℕ) → look (10 ∷ line) ≡ look (10 ∷ [])) → CrossesNewline look
crosses look within local same = grind arith

-- In a literal, `\` and the newline are a unit.
pub literal_crosses : (quote : ℕ) → CrossesNewline (look_in_literal quote)
literal_crosses quote = grind (arith, literal-local)

abbrev pub after_units : List (List ℕ) → Reach → Reach
after_units us m = record { units = us ++ m.units; close = m.close; how = m.how }

sizes : (us : List (List ℕ)) (t : List ℕ) (m : Reach)
    → flat_map (λ u. u) us ≡ t → reach_size (after_units us m) ≡ length t + reach_size m
sizes us t m h = grind (arith, flat_map-append, length-append)

ends : (how : End) → IsEnd how → is_unclosed how ≡ true → ⊥
ends Open h g = h
ends _ h g = cc

abbrev Crosses : (List ℕ → Look) → ℕ → List ℕ → Type 0
Crosses look k v = is_unclosed (reach_in look Open k (v ++ 10 ∷ [])).how ≡ true

-- The units up to the newline, and those of the next line.
record IsCrossed (look : List ℕ → Look) (e : End) (k : ℕ) (v line : List ℕ) : Type 0 where
  pub on : reach_in look e k (v ++ 10 ∷ line)
      ≡ after_units (reach_in look Open k (v ++ 10 ∷ [])).units (reach look e line)
  pub bytes : body (reach_in look Open k (v ++ 10 ∷ [])) ≡ drop k (v ++ 10 ∷ [])

take_same : (n : ℕ) (v line : List ℕ) → n ≤ length v + 1 → take n (v ++ 10 ∷ line) ≡ take n (v ++ 10 ∷ [])
take_same zero v line h = refl
take_same (suc zero) [] line h = refl
take_same (suc (suc n)) [] line h = absurd (omega (arith, h))
take_same (suc n) (b ∷ v) line h = ap (λ t. b ∷ t) (take_same n v line (omega (arith, h)))

drop_less : (n : ℕ) (b : ℕ) (t : List ℕ) → 0 < n → drop (n - 1) t ≡ drop n (b ∷ t)
drop_less zero b t h = absurd (omega (arith, h))
drop_less (suc n) b t h = let e : suc n - 1 ≡ n = omega arith in ap (λ k. drop k t) e

newline_at : (look : List ℕ → Look) (e : End) (line : List ℕ) (w : Look) → IsWithin w 1
    → is_unclosed (at_start look w (10 ∷ []) Open []).how ≡ true
    → (at_start look w (10 ∷ line) e line
    ≡ after_units (at_start look w (10 ∷ []) Open []).units (reach look e line))
    × (body (at_start look w (10 ∷ []) Open []) ≡ 10 ∷ [])
newline_at look e line (Ends n how) within h = absurd (ends how within h)
newline_at look e line (Goes zero) within h = absurd (omega (arith, within.0))
newline_at look e line (Goes (suc zero)) within h = (refl, refl)
newline_at look e line (Goes (suc (suc n))) within h = absurd (omega (arith, within.1))

crossed_at : (look : List ℕ → Look) (e : End) (b : ℕ) (v line : List ℕ) (w : Look)
    → IsWithin w (length (b ∷ v) + 1) → ((k : ℕ) → k ≤ length v + 1 → Crosses look k v → IsCrossed look e k v line)
    → is_unclosed (at_start look w (b ∷ v ++ 10 ∷ []) Open (v ++ 10 ∷ [])).how ≡ true
    → (at_start look w (b ∷ v ++ 10 ∷ line) e (v ++ 10 ∷ line)
    ≡ after_units (at_start look w (b ∷ v ++ 10 ∷ []) Open (v ++ 10 ∷ [])).units (reach look e line))
    × (body (at_start look w (b ∷ v ++ 10 ∷ []) Open (v ++ 10 ∷ [])) ≡ b ∷ v ++ 10 ∷ [])
crossed_at look e b v line (Ends n how) within f h = absurd (ends how within h)
crossed_at look e b v line (Goes n) within f h =
    let i = f (n - 1) (omega (arith, within.1)) h in (
      (λ j. with_unit (take_same n (b ∷ v) line within.1 j) (i.on j)),
      ap (λ t. take n (b ∷ v ++ 10 ∷ []) ++ t) (i.bytes ∙ drop_less n b (v ++ 10 ∷ []) within.0)
          ∙ take-append-drop n (b ∷ v ++ 10 ∷ []),
    )

crossed_in : (look : List ℕ → Look) → CrossesNewline look → (e : End) (k : ℕ) (v line : List ℕ) → k ≤ length v + 1
    → Crosses look k v → IsCrossed look e k v line
crossed_in look o e zero [] line fits h = grind (arith, newline_at)
crossed_in look o e (suc zero) [] line fits h = record { on = refl; bytes = refl }
crossed_in look o e (suc (suc k)) [] line fits h = absurd (omega (arith, fits))
crossed_in look o e (suc k) (b ∷ v) line fits h = grind (arith, crossed_in look o e k v line (omega (arith, fits)) h)
crossed_in look o e zero (b ∷ v) line fits h =
    let same : look (b ∷ v ++ 10 ∷ []) ≡ look (b ∷ v) = o.local [] b v in
    let opens = ap (λ w. is_unclosed (at_start look w (b ∷ v ++ 10 ∷ []) Open (v ++ 10 ∷ [])).how) (sym same) ∙ h in
    let p = crossed_at look e b v line (look (b ∷ v)) (o.within b v)
    (λ k g c. crossed_in look o e k v line g c) opens in
    record {
      on = grind arith;
      bytes = ap (λ w. body (at_start look w (b ∷ v ++ 10 ∷ []) Open (v ++ 10 ∷ []))) same ∙ p.1;
    }

crossed : (look : List ℕ → Look) → CrossesNewline look → (e : End) (v line : List ℕ) → goes_on look v ≡ true
    → IsCrossed look e 0 v line
crossed look o e v line h = crossed_in look o e 0 v line (omega arith) h

-- Whether the item goes on after one more line depends on that line.
pub crossed_how : (look : List ℕ → Look) → CrossesNewline look → (v line : List ℕ) → goes_on look v ≡ true
    → goes_on look (v ++ 10 ∷ line) ≡ goes_on look line
crossed_how look o v line h = grind (arith, append_assoc, crossed)

pub crossed_size : (look : List ℕ → Look) → CrossesNewline look → (v line : List ℕ) → goes_on look v ≡ true
    → reach_size (reach look Cut (v ++ 10 ∷ line)) ≡ length v + 1 + reach_size (reach look Cut line)
crossed_size look o v line h = grind (arith, crossed, sizes, length-append)

-- The source's end ends the item.
ended_at : (look : List ℕ → Look) (b : ℕ) (v : List ℕ) (w : Look) → IsWithin w (length (b ∷ v) + 1)
    → ((k : ℕ) → k ≤ length v + 1 → Crosses look k v → reach_size (reach_in look Cut k v) ≡ length (drop k v))
    → is_unclosed (at_start look w (b ∷ v ++ 10 ∷ []) Open (v ++ 10 ∷ [])).how ≡ true
    → reach_size (at_start look w (b ∷ v) Cut v) ≡ length (b ∷ v)
ended_at look b v (Ends n how) within f h = absurd (ends how within h)
ended_at look b v (Goes n) within f h =
    let r = reach_in look Cut (n - 1) v in
    omega (
      arith,
      f (n - 1) (omega (arith, within.1)) h,
      length-append (take n (b ∷ v)) (body r),
      ap (λ (t : List ℕ). length t) (drop_less n b v within.0),
      ap (λ (t : List ℕ). length t) (take-append-drop n (b ∷ v)),
      length-append (take n (b ∷ v)) (drop n (b ∷ v)),
    )

ended_in : (look : List ℕ → Look) → CrossesNewline look → (k : ℕ) (v : List ℕ) → k ≤ length v + 1 → Crosses look k v
    → reach_size (reach_in look Cut k v) ≡ length (drop k v)
ended_in look o zero [] fits h = refl
ended_in look o (suc k) [] fits h = refl
ended_in look o (suc k) (b ∷ v) fits h = ended_in look o k v (omega (arith, fits)) h
ended_in look o zero (b ∷ v) fits h =
    ended_at look b v (look (b ∷ v)) (o.within b v) (λ k g c. ended_in look o k v g c)
    (ap (λ w. is_unclosed (at_start look w (b ∷ v ++ 10 ∷ []) Open (v ++ 10 ∷ [])).how) (sym (o.local [] b v)) ∙ h)

pub crossed_ended : (look : List ℕ → Look) → CrossesNewline look → (v : List ℕ) → goes_on look v ≡ true
    → reach_size (reach look Cut v) ≡ length v
crossed_ended look o v h = ended_in look o 0 v (omega arith) h
