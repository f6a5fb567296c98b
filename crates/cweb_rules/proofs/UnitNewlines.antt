-- The newlines in lines and units, as far as the kind of the lexeme determines them.
use Rattle.cweb_rules.proofs.Common.{◌≡◌, ◌≤◌, ◌<◌, ℕ, zero, suc, ◌+◌, ◌-◌, List, [], ◌∷◌, ◌++◌, length, take, drop, refl, ap, sym, ◌∙◌, subst, arith, take-append-drop, append_assoc, append-nil, if◌then◌else◌, flat_map, take-add, drop-nil, take-append_seam, ne_eqb, flat_map-append, take-append-le, Reach, reach, reach_in, with_unit, body, reach_size, quoted_match, Kind, Skipped, Occurrence, LineEnd, Comment, Quoted, RuleMatch, IsLine, at_line_ends, End, Cut, Look, Goes, Ends}
use Rattle.cweb_rules.proofs.InLines.{InLine, AreLines, IsLine-take}
use Rattle.cweb_rules.proofs.Looks.{IsSome, AllSome}

-- Only skipped bytes, names, comments, literals and line ends have newlines. Those of a literal are in its units.
abbrev pub Tells : Kind → List ℕ → Type 0
Tells Skipped bytes = Unit {0}
Tells (Occurrence is_file us how opens) bytes = Unit {0}
Tells (Comment how) bytes = Unit {0}
Tells LineEnd bytes = bytes ≡ 10 ∷ []
Tells (Quoted us how) bytes = at_line_ends 1 (flat_map (λ u. u) us) ≡ at_line_ends 1 bytes
Tells k bytes = at_line_ends 1 bytes ≡ 0

abbrev pub Known : List ℕ → RuleMatch → Type 0
Known t f = Tells f.kind (take f.size t)

pub none-ends : (t : List ℕ) → IsLine t → at_line_ends 1 t ≡ 0
none-ends [] h = refl
none-ends (b ∷ t) h = ap (λ v. if v then 1 + at_line_ends 1 t else at_line_ends 1 t) (ne_eqb b 10 h.0) ∙ none-ends t h.1

pub ends-append : (t u : List ℕ) → at_line_ends 1 (t ++ u) ≡ at_line_ends 1 t + at_line_ends 1 u
ends-append [] u = let e : at_line_ends 1 u ≡ 0 + at_line_ends 1 u = omega arith in e
ends-append (b ∷ t) u = grind (arith, ends-append t u)

units-none : (us : List (List ℕ)) → AreLines us → at_line_ends 1 (flat_map (λ u. u) us) ≡ 0
units-none [] h = refl
units-none (u ∷ us) h = omega (arith, ends-append u (flat_map (λ u. u) us), none-ends u h.0, units-none us h.1)

line-known : (k : Kind) (bytes : List ℕ) → InLine k bytes → IsLine bytes → Tells k bytes
line-known Skipped bytes h l = tt
line-known (Occurrence is_file us how opens) bytes h l = tt
line-known LineEnd bytes h l = absurd h
line-known (Comment how) bytes h l = tt
line-known (Quoted us how) bytes h l = units-none us h ∙ sym (none-ends bytes l)
line-known _ bytes h l = none-ends bytes l

pub in_line-known : (f : RuleMatch) (u more : List ℕ) → IsLine u
    → InLine f.kind (take f.size u) → f.size ≤ length u → Known (u ++ more) f
in_line-known f u more l h fits = subst (Tells f.kind)
    (sym (take-append-le f.size u more fits)) (line-known f.kind (take f.size u) h (IsLine-take f.size u l))

abbrev at_start : (List ℕ → Look) → End → Look → List ℕ → List ℕ → Reach
at_start look e v u t =
    elim v [
      | Goes n ↦ with_unit (take n u) (reach_in look e (n - 1) t)
      | Ends n how ↦ record { units = []; close = n; how = how }
    ]

pub drop-pred : (n : ℕ) (b : ℕ) (t : List ℕ) → 0 < n → drop (n - 1) t ≡ drop n (b ∷ t)
drop-pred n b t h = let e : n ≡ suc (n - 1) = omega arith in sym (ap (λ m. drop m (b ∷ t)) e)

abbrev Begins : Reach → List ℕ → Type 0
Begins r t = (rest : List ℕ) × (t ≡ body r ++ rest)

begins_at : (look : List ℕ → Look) (e : End) (v : Look) (b : ℕ) (t : List ℕ) → IsSome v
    → ((k : ℕ) → Begins (reach_in look e k t) (drop k t)) → Begins (at_start look e v (b ∷ t) t) (b ∷ t)
begins_at look e (Goes n) b t some f =
    grind (arith, f (n - 1), take-append-drop n (b ∷ t), drop-pred n b t some, append_assoc (take n (b ∷ t)))
begins_at look e (Ends n how) b t some f = (b ∷ t, refl)

begins_in : (look : List ℕ → Look) (e : End) → AllSome look
    → (k : ℕ) (t : List ℕ) → Begins (reach_in look e k t) (drop k t)
begins_in look e some k [] = ([], drop-nil k)
begins_in look e some (suc k) (b ∷ t) = begins_in look e some k t
begins_in look e some zero (b ∷ t) = begins_at look e (look (b ∷ t)) b t (some b t) (λ k. begins_in look e some k t)

pub units-prefix : (look : List ℕ → Look) (e : End) (t : List ℕ) → AllSome look
    → take (length (body (reach look e t))) t ≡ body (reach look e t)
units-prefix look e t some = grind (arith, begins_in look e some 0 t, take-append_seam)

pub drop-sum : {A : Type 0} (n m : ℕ) (t : List A) → drop (n + m) t ≡ drop m (drop n t)
drop-sum zero m t = let e : 0 + m ≡ m = omega arith in ap (λ k. drop k t) e
drop-sum (suc n) m [] = drop-nil (suc n + m) ∙ sym (drop-nil m)
drop-sum (suc n) m (b ∷ t) =
    let e : suc n + m ≡ suc (n + m) = omega arith in ap (λ k. drop k (b ∷ t)) e ∙ drop-sum n m t

pub quoted-bytes : (look : List ℕ → Look) → AllSome look → (n : ℕ) (t : List ℕ) → (let r = reach look Cut (drop n t) in
    flat_map (λ u. u) (take n t ∷ r.units ++ take r.close (drop (n + length (body r)) t) ∷ []))
    ≡ take (n + reach_size (reach look Cut (drop n t))) t
quoted-bytes look some n t = grind (arith, flat_map-append, append-nil, drop-sum, units-prefix, take-add)

pub quoted-known : (look : List ℕ → Look) → AllSome look → (n : ℕ) (t : List ℕ)
    → Known t (quoted_match n (reach look Cut (drop n t)) t)
quoted-known look some n t = ap (at_line_ends 1) (quoted-bytes look some n t)
