-- Items that go on after a newline, or end before it.
use Rattle.cweb_rules.proofs.Common.{◌≡◌, ℕ, zero, suc, ◌-◌, true, false, List, [], ◌∷◌, ◌++◌, refl, ap, sym, ◌∙◌, Look, Goes, Ends, Reach, reach, reach_in, End, Cut, Open, AtLineEnd, is_unclosed, append-nil, arith, at_start}
use Rattle.cweb_rules.specs.inner.LineItems.{goes_on}
use Rattle.cweb_rules.proofs.Looks.{IsSome, AllSome, AllWithin, ended_whole, whole}
use Rattle.cweb_rules.proofs.Reaches.{IsLocal, IsWhole, WholeAt, join, reach-append, reach-ended}

abbrev pub newline : List ℕ
newline = 10 ∷ []

-- An item that the newline ends has no unit over it.
whole_at : (look : List ℕ → Look) (b : ℕ) (t : List ℕ) (v : Look) → IsSome v
    → ((k : ℕ) → is_unclosed (reach_in look Open k (t ++ newline)).how ≡ false → IsWhole look k t)
    → is_unclosed (at_start look v (b ∷ t ++ newline) Open (t ++ newline)).how ≡ false → WholeAt look v t
whole_at look b t (Goes n) h f g = (h, f (n - 1) g)
whole_at look b t (Ends n how) h f g = h

whole_in : (look : List ℕ → Look) → IsLocal look newline → AllSome look → (k : ℕ) (t : List ℕ)
    → is_unclosed (reach_in look Open k (t ++ newline)).how ≡ false → IsWhole look k t
whole_in look local some zero [] h = refl
whole_in look local some (suc k) [] h = cc
whole_in look local some (suc k) (b ∷ t) h = whole_in look local some k t h
whole_in look local some zero (b ∷ t) h = whole_at look b t (look (b ∷ t)) (some b t)
    (λ k g. whole_in look local some k t g)
    (ap (λ v. is_unclosed (at_start look v (b ∷ t ++ newline) Open (t ++ newline)).how) (sym (local b t)) ∙ h)

join_same : (us : List (List ℕ)) (k : ℕ) (how : End) (m n next : Reach) → (is_unclosed next.how ≡ false → m ≡ n)
    → is_unclosed (join (record { units = us; close = k; how = how }) next).how ≡ false
    → join (record { units = us; close = k; how = how }) m ≡ join (record { units = us; close = k; how = how }) n
join_same us k Open m n next same h = ap (join (record { units = us; close = k; how = Open })) (same h)
join_same us k _ m n next same h = refl

-- An item that ends in its line, or with it, doesn't depend on the bytes after the line.
pub ends_in_line : (look : List ℕ → Look) (t more : List ℕ) → AllSome look
    → ((more : List ℕ) → AtLineEnd more → IsLocal look more) → AtLineEnd more
    → (is_unclosed (reach look Open newline).how ≡ false → reach look Cut more ≡ reach look Cut [])
    → goes_on look t ≡ false → reach look Cut (t ++ more) ≡ reach look Cut t
ends_in_line look t more some local e stops ends =
    let w = whole_in look (local newline refl) some 0 t ends in
    let r = reach look Open t in
    reach-append look Cut t more (local more e) w
    ∙ join_same r.units r.close r.how (reach look Cut more) (reach look Cut []) (reach look Open newline) stops
    (ap (λ (m : Reach). is_unclosed m.how) (sym (reach-append look Open t newline (local newline refl) w)) ∙ ends)
    ∙ sym (ap (reach look Cut) (sym (append-nil t)) ∙ reach-append look Cut t [] (local [] tt) w)

join_open : (us : List (List ℕ)) (k : ℕ) (how : End) (next : Reach) → is_unclosed next.how ≡ true
    → is_unclosed (join (record { units = us; close = k; how = how }) next).how ≡ is_unclosed how
join_open us k Open next h = h
join_open us k _ next h = refl

-- If a newline is a unit, an item goes on after its line unless it ends in it.
pub goes_on_is : (look : List ℕ → Look) (t : List ℕ) → AllWithin look → IsLocal look newline → look newline ≡ Goes 1
    → goes_on look t ≡ is_unclosed (reach look Open t).how
goes_on_is look t within local goes = grind (arith, reach-append, whole, join_open)

-- An item that ends in its line doesn't go on.
pub ended_stops : (look : List ℕ → Look) (t : List ℕ) → IsLocal look newline → AllSome look
    → is_unclosed (reach look Open t).how ≡ false → goes_on look t ≡ false
ended_stops look t local some h = grind (arith, reach-ended, ended_whole)
