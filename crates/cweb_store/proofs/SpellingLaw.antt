-- White space in a spelling is single blanks between other bytes.
use Rattle.cweb_store.proofs.Common.{arith, ◌≡◌, ℕ, Bool, true, false, ◌&&◌, not, List, [], ◌∷◌, ◌++◌, refl, ap, sym, ◌∙◌, if◌then◌else◌, filter, eqb-true, eq-eqb}
use Rattle.std.proofs.Common.{◌==◌, ◌⊎◌, ◌≢◌, inl, inr}
use Rattle.std.specs.Prelude.{codes}
use Rattle.std.specs.List.{list_all}
use Rattle.std.proofs.lemmas.Bool.{and_parts, and_from}
use Rattle.std.proofs.lemmas.List.Elements.{filter-append}
use Rattle.cweb_rules.specs.Bytes.{is_white}
use Rattle.cweb_rules.specs.Edges.{first_is}
use Rattle.cweb_store.specs.inner.Squeezing.{is_squeezed, is_squeezed_after}
use Rattle.cweb_store.specs.Names.{squeezed, squeezed_after}
use Rattle.cweb_store.specs.laws.Laws.{is_other, HasSingleBlanks, SpellingsAreSqueezed}
use Rattle.cweb_store.proofs.Squeezing.{fits_by, squeezed_stays}

-- The rest after a byte that isn't white, and after white space.
abbrev Fits : List ℕ → Type 0
Fits t = (is_squeezed_after false (squeezed_after true [] t) ≡ true)
    × (is_squeezed_after false (squeezed_after true (codes " ") t) ≡ true)

rest-fits : (t : List ℕ) → Fits t
rest-fits [] = (refl, refl)
rest-fits (b ∷ t) = grind (arith, is_white b, rest-fits t)

spelling-fits : (t : List ℕ) → (squeezed t ≡ []) ⊎ (is_squeezed (squeezed t) ≡ true)
spelling-fits [] = inl refl
spelling-fits (b ∷ t) = grind (arith, is_white b, spelling-fits t, rest-fits t)

squeezed-twice : (t : List ℕ) → squeezed (squeezed t) ≡ squeezed t
squeezed-twice t = elim (spelling-fits t) [ inl e ↦ ap squeezed e ∙ sym e | inr h ↦ squeezed_stays (squeezed t) h ]

-- The other bytes.

blank-other : (v : Bool) → filter is_other (if v then codes " " else []) ≡ []
blank-other true = refl
blank-other false = refl

others-stay : (begun : Bool) (gap t : List ℕ) → filter is_other gap ≡ []
    → filter is_other (squeezed_after begun gap t) ≡ filter is_other t
others-stay begun gap [] h = refl
others-stay begun gap (b ∷ t) h =
    grind (
      arith,
      is_white b,
      h,
      others-stay begun (if begun then codes " " else []) t (blank-other begun),
      others-stay true [] t,
      filter-append is_other gap (b ∷ squeezed_after true [] t),
    )

-- White space.

white-span : (begun : Bool) (gap t : List ℕ) → list_all is_white gap ≡ true →
    let blank = if begun then codes " " else [] in
    squeezed_after begun blank (gap ++ t) ≡ squeezed_after begun blank t
white-span begun [] t h = refl
white-span begun (b ∷ gap) t h =
    grind (arith, and_parts, white-span begun gap t (and_parts (is_white b) (list_all is_white gap) h).1)

spans-after : (begun : Bool) (gap before span t : List ℕ) (b : ℕ) → is_white b ≡ true → list_all is_white span ≡ true
    → squeezed_after begun gap (before ++ b ∷ (span ++ t)) ≡ squeezed_after begun gap (before ++ 32 ∷ t)
spans-after begun gap [] span t b e h = grind (arith, begun, white-span)
spans-after begun gap (x ∷ before) span t b e h =
    grind (
      arith,
      is_white x,
      spans-after begun (if begun then codes " " else []) before span t b e h,
      spans-after true [] before span t b e h,
    )

first-other : (t : List ℕ) → is_squeezed_after true t ≡ true → first_is is_other t ≡ true
first-other [] h = cc
first-other (b ∷ t) h = grind (arith, is_white b, h)

single-after : (gap : Bool) (before : List ℕ) (b : ℕ) (after : List ℕ)
    → is_squeezed_after gap (before ++ b ∷ after) ≡ true → is_white b ≡ true
    → (b ≡ 32) × (gap ≡ true → before ≢ []) × (first_is is_other after ≡ true)
single-after gap [] b after h e = grind (arith, after, and_parts, eqb-true, first-other)
single-after gap (x ∷ before) b after h e = (elim (is_white x) as (λ w. fits_by w gap x (before ++ b ∷ after) ≡ true
    → (b ≡ 32) × (gap ≡ true → (x ∷ before) ≢ []) × (first_is is_other after ≡ true)) [
      | true ↦ λ k.
          let p = and_parts (not gap && (x == 32)) (is_squeezed_after true (before ++ b ∷ after)) k in
          let r = single-after true before b after p.1 e in (r.0, λ g z. cc, r.2)
      | false ↦ λ k. let r = single-after false before b after k e in (r.0, λ g z. cc, r.2)
    ]) h

no-blanks : (before : List ℕ) (b : ℕ) (after : List ℕ) → [] ≡ before ++ b ∷ after → ⊥
no-blanks [] b after e = cc
no-blanks (x ∷ before) b after e = cc

spelling-single : (t : List ℕ) → HasSingleBlanks (squeezed t)
spelling-single t before b after e w = grind (arith, spelling-fits, inl, no-blanks, inr, single-after)

-- A text with single blanks stays.

abbrev AreSingle : Bool → List ℕ → Type 0
AreSingle gap t = (before : List ℕ) (b : ℕ) (after : List ℕ) → t ≡ before ++ b ∷ after → is_white b ≡ true
    → (b ≡ 32) × (gap ≡ true → before ≢ []) × (first_is is_other after ≡ true)

white-first : (b : ℕ) (t after : List ℕ) → is_white b ≡ true → t ≡ b ∷ after → first_is is_other t ≡ true → ⊥
white-first b t after w e h = grind arith

no-gap : (gap : Bool) → (gap ≡ true → ⊥) → not gap ≡ true
no-gap true f = absurd (f refl)
no-gap false f = refl

single-fits : (gap : Bool) (t : List ℕ) → AreSingle gap t → (gap ≡ true → t ≢ []) → is_squeezed_after gap t ≡ true
single-fits true [] h n = absurd (n refl refl)
single-fits false [] h n = refl
single-fits gap (x ∷ t) h n = (elim (is_white x) as (λ w. is_white x ≡ w → fits_by w gap x t ≡ true) [
  | true ↦ λ e.
      let k = h [] x t refl e in
      let rest : is_squeezed_after true t ≡ true = single-fits true t (λ before b after q w.
      let j = h (x ∷ before) b after (ap (λ u. x ∷ u) q) w in
      (j.0, λ g z. white-first b t after w (q ∙ ap (λ u. u ++ b ∷ after) z) k.2, j.2))
      (λ g z. let bad : false ≡ true = ap (first_is is_other) (sym z) ∙ k.2 in cc) in
      and_from (not gap && (x == 32)) (is_squeezed_after true t)
      (and_from (not gap) (x == 32) (no-gap gap (λ g. k.1 g refl)) (eq-eqb x 32 k.0)) rest
  | false ↦ λ e. single-fits false t (λ before b after q w.
      let j = h (x ∷ before) b after (ap (λ u. x ∷ u) q) w in (j.0, λ g z. cc, j.2)) (λ g z. cc)
]) refl

spelling-stays : (t : List ℕ) → HasSingleBlanks t → squeezed t ≡ t
spelling-stays [] h = refl
spelling-stays (x ∷ t) h = squeezed_stays (x ∷ t) (single-fits true (x ∷ t)
    (λ before b after q w. let j = h before b after q w in (j.0, λ g. j.1, j.2)) (λ g z. cc))

pub spellings_are_squeezed : SpellingsAreSqueezed
spellings_are_squeezed = record {
  single = spelling-single;
  others = λ t. others-stay false [] t refl;
  spans = λ before gap after b e h. spans-after false [] before gap after b e h;
  stays = spelling-stays;
  twice = squeezed-twice;
}
