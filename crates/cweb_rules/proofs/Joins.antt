-- The next punctuator doesn't depend on bytes that can't continue it.
use Rattle.cweb_rules.proofs.Common.{arith, ◌≡◌, ℕ, Bool, true, false, ◌&&◌, ◌==◌, not, List, [], ◌∷◌, ◌++◌, refl, sym, ◌∙◌, list_all, eqb-true, begins, first_is, longest, all_join, and_parts}

pub second : (a b : Bool) → a ≡ true → (a && b) ≡ false → b ≡ false
second true b p e = e
second false b p e = cc

-- The last byte before the seam and the first byte after it join.
abbrev pub seam_joins : (ℕ → ℕ → Bool) → ℕ → List ℕ → List ℕ → Bool
seam_joins joins b [] more = first_is (joins b) more
seam_joins joins b (c ∷ t) more = seam_joins joins c t more

-- A prefix of the whole that isn't one of the first part extends over the seam.
crosses : (joins : ℕ → ℕ → Bool) (p : List ℕ) (b : ℕ) (t more : List ℕ) → all_join joins p ≡ true
    → begins p (b ∷ t ++ more) ≡ true → begins p (b ∷ t) ≡ false → seam_joins joins b t more ≡ true
crosses joins [] b t more j fits misses = cc
crosses joins (x ∷ []) b t more j fits misses = let e = sym fits ∙ misses in cc
crosses joins (x ∷ y ∷ p) b [] [] j fits misses = let e = sym fits ∙ misses in cc
crosses joins (x ∷ y ∷ p) b [] (c ∷ more) j fits misses = grind (arith, eqb-true x b, eqb-true y c)
crosses joins (x ∷ y ∷ p) b (c ∷ t) more j fits misses =
    let h = and_parts (x == b) (begins (y ∷ p) (c ∷ t ++ more)) fits in
    crosses joins (y ∷ p) c t more (and_parts (joins x y) (all_join joins (y ∷ p)) j).1
    h.1 (second (x == b) (begins (y ∷ p) (c ∷ t)) h.0 misses)

pub begins-append : (p t more : List ℕ) → begins p t ≡ true → begins p (t ++ more) ≡ true
begins-append [] t more h = refl
begins-append (x ∷ p) [] more h = cc
begins-append (x ∷ p) (b ∷ t) more h = grind (arith, and_parts (x == b) (begins p t) h, begins-append p t more)

by_cases : (a b : Bool) → (a ≡ true → b ≡ true) → (b ≡ true → a ≡ false → true ≡ false) → b ≡ a
by_cases true b f g = f refl
by_cases false true f g = g refl refl
by_cases false false f g = refl

pub begins_stays : (joins : ℕ → ℕ → Bool) (p : List ℕ) (b : ℕ) (t more : List ℕ) → all_join joins p ≡ true
    → seam_joins joins b t more ≡ false → begins p (b ∷ t ++ more) ≡ begins p (b ∷ t)
begins_stays joins p b t more j seam = by_cases (begins p (b ∷ t)) (begins p (b ∷ t ++ more))
    (begins-append p (b ∷ t) more) (λ fits misses. sym (crosses joins p b t more j fits misses) ∙ seam)

pub longest_stays : (joins : ℕ → ℕ → Bool) (ps : List (List ℕ)) (b : ℕ) (t more : List ℕ) → list_all (all_join joins) ps
    ≡ true → seam_joins joins b t more ≡ false → longest ps (b ∷ t ++ more) ≡ longest ps (b ∷ t)
longest_stays joins [] b t more j seam = refl
longest_stays joins (p ∷ ps) b t more j seam =
    grind (arith, begins_stays joins p b t more, longest_stays joins ps b t more)

not_both : (v : Bool) → not v ≡ v → true ≡ false
not_both true e = sym e
not_both false e = e

pub unlike : (p : ℕ → Bool) (c b : ℕ) (v : Bool) → p b ≡ v → p c ≡ not v → (c == b) ≡ false
unlike p c b v h k = grind (arith, p c, p b, eqb-true c b, not_both v)
