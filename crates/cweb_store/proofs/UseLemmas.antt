-- The names that tokens use, and whether any token passes, from the index of the next passing token.
use Rattle.cweb_store.proofs.Common.{arith, ◌≡◌, ◌≤◌, ◌<◌, ◌+◌, ◌-◌, ℕ, drop, drop-drop, token_numbers, Bool, false, ◌||◌, List, [], ◌∷◌, Some, refl, ◌∙◌, ap, slice_get, list_any, list_any-append, NameId, Resolution, Token, if◌then◌else◌, is_use, is_used, is_c_part, is_name_use, IsNextNumber, nat_lt, slice_range}
use Rattle.cweb_store.specs.declared.parts.Part.{Part}
use Rattle.cweb_store.specs.Parts as spec
use Rattle.cweb_store.proofs.NextLemmas.{BeginsFrom, first-low, next-first, next-rest, none-found}
use Rattle.cweb_store.proofs.RangeLemmas.{range-split, range-head, range-none}

-- A token of a part passes exactly if the next passing token is in the part.
pub next-any : (test : Token → Bool) (ts : List Token) (part : Part) (next : ℕ) → IsNextNumber test ts part next
    → nat_lt next part.after ≡ list_any test (slice_range ts part.first part.after)
next-any test ts part next is =
    grind (
      arith,
      range-split ts part.first next part.after is.begins is.within,
      list_any-append test (slice_range ts part.first next) (slice_range ts next part.after),
      range-head ts next part.after,
    )

-- A token that is no use uses no name.
not-used : (rs : List Resolution) (n : NameId) (t : Token) → is_name_use t ≡ false → is_use rs n t ≡ false
not-used rs n (spec.Name name) h = cc
not-used rs n _ h = refl

unused : (rs : List Resolution) (n : NameId) (ts : List Token)
    → list_any is_name_use ts ≡ false → list_any (is_use rs n) ts ≡ false
unused rs n [] h = refl
unused rs n (t ∷ ts) h = grind (arith, not-used rs n t, unused rs n ts)

-- Tokens before the next use use nothing.
pub uses-from-next : (rs : List Resolution) (n : NameId) (ts : List Token) (part : Part) (next : ℕ)
    → IsNextNumber is_name_use ts part next → list_any (is_use rs n) (slice_range ts part.first part.after)
    ≡ list_any (is_use rs n) (slice_range ts next part.after)
uses-from-next rs n ts part next is =
    cc (
      range-split ts part.first next part.after is.begins is.within,
      list_any-append (is_use rs n) (slice_range ts part.first next) (slice_range ts next part.after),
      unused rs n (slice_range ts part.first next) is.before,
    )

-- The step over a use: token m, the first one in the index from a token on.
pub uses-over : (rs : List Resolution) (n : NameId) (ts : List Token) (from after m : ℕ) (t : Token) (xs : List ℕ)
    → token_numbers is_name_use from (drop from ts) ≡ m ∷ xs → m < after → slice_get ts m ≡ Some t
    → list_any (is_use rs n) (slice_range ts from after)
    ≡ (is_use rs n t || list_any (is_use rs n) (slice_range ts (m + 1) after))
uses-over rs n ts from after m t xs head less here =
    let part : Part = record { first = from; after = after } in
    uses-from-next rs n ts part m (next-first is_name_use ts part m xs head less)
    ∙ ap (list_any (is_use rs n)) (range-head ts m after t here less)

-- The entries after this one are those of the tokens after it.
pub index-over : (ts : List Token) (from m : ℕ) (xs : List ℕ) → token_numbers is_name_use from (drop from ts) ≡ m ∷ xs
    → xs ≡ token_numbers is_name_use (m + 1) (drop (m + 1) ts)
index-over ts from m xs head =
    let k = m - from in
    let place : m ≡ from + k = omega (arith, first-low is_name_use from m (drop from ts) xs head) in
    next-rest is_name_use from m k (drop from ts) xs head place
    ∙ ap (token_numbers is_name_use (m + 1))
    (drop-drop (k + 1) from ts ∙ ap (λ i. drop i ts) (omega (arith, place)))

-- No token uses a name before the first index entry.
pub uses-end : (rs : List Resolution) (n : NameId) (ts : List Token) (from after : ℕ) → from ≤ after
    → BeginsFrom after (token_numbers is_name_use from (drop from ts))
    → list_any (is_use rs n) (slice_range ts from after) ≡ false
uses-end rs n ts from after le begins =
    let part : Part = record { first = from; after = after } in
    uses-from-next rs n ts part after (none-found is_name_use ts part le begins)
    ∙ ap (list_any (is_use rs n)) (range-none ts after after (omega arith))

-- One more part.
pub used-here : (rs : List Resolution) (n : NameId) (p : spec.Part) (ps : List spec.Part) (was now : Bool)
    → now ≡ (if is_c_part p.kind then was || list_any (is_use rs n) p.tokens else was)
    → (now || is_used rs ps n) ≡ (was || is_used rs (p ∷ ps) n)
used-here rs n p ps was now is = grind (arith, list_any-append)
