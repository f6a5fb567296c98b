-- The next unit of an item in a line: it doesn't depend on the bytes after the line, and is within the line.
use Rattle.cweb_rules.proofs.Common.{◌≡◌, ◌≤◌, ◌<◌, ℕ, zero, suc, ◌-◌, Bool, true, false, ◌==◌, List, [], ◌∷◌, ◌++◌, length, refl, arith, if◌then◌else◌, codes, list_all, begins, first_is, starts_section, Look, Goes, Ends, reach, reach_in, Closed, Cut, Open, look_in_control, look_in_name, look_in_comment, look_in_literal, look_in_include, look_in_raw, AtLineEnd, is_unclosed, and_parts, at_start}
use Rattle.cweb_rules.proofs.Seams.{in_line, begins_stop, begins_line, starts_section_line}
use Rattle.cweb_rules.proofs.Sizes.{begins-size}
use Rattle.cweb_rules.proofs.Reaches.{IsLocal, IsEnd, IsWhole, WholeAt}

abbrev pub IsWithin : Look → ℕ → Type 0
IsWithin (Goes n) len = (0 < n) × (n ≤ len)
IsWithin (Ends n how) len = IsEnd how

abbrev pub AllWithin : (List ℕ → Look) → Type 0
AllWithin look = (b : ℕ) (t : List ℕ) → IsWithin (look (b ∷ t)) (length (b ∷ t))

whole_at : (look : List ℕ → Look) (v : Look) (t : List ℕ) → IsWithin v (suc (length t))
    → ((k : ℕ) → k ≤ length t → IsWhole look k t) → WholeAt look v t
whole_at look (Goes n) t h f = (h.0, f (n - 1) (omega (arith, h.1)))
whole_at look (Ends n how) t h f = h

whole_in : (look : List ℕ → Look) → AllWithin look → (k : ℕ) (t : List ℕ) → k ≤ length t → IsWhole look k t
whole_in look within k [] h = omega (arith, h)
whole_in look within (suc k) (b ∷ t) h = whole_in look within k t (omega (arith, h))
whole_in look within zero (b ∷ t) h = whole_at look (look (b ∷ t)) t (within b t) (λ k f. whole_in look within k t f)

pub whole : (look : List ℕ → Look) → AllWithin look → (t : List ℕ) → IsWhole look 0 t
whole look within t = whole_in look within 0 t (omega arith)

within_if : (v : Bool) (x y : Look) (n : ℕ) → (v ≡ true → IsWithin x n)
    → (v ≡ false → IsWithin y n) → IsWithin (if v then x else y) n
within_if true x y n f g = f refl
within_if false x y n f g = g refl

goes : (n len : ℕ) → 0 < n → n ≤ len → IsWithin (Goes n) len
goes n len h k = (h, k)

pub control-local : (more : List ℕ) → AtLineEnd more → IsLocal look_in_control more
control-local more e b t = grind arith

pub control-units : AllWithin look_in_control
control-units b t = grind (arith, within_if, goes, begins-size)

-- An `@` that begins no section has a byte after it.
pub at_fits : (b : ℕ) (t : List ℕ) → starts_section (b ∷ t) ≡ false
    → begins (codes "@") (b ∷ t) ≡ true → 2 ≤ length (b ∷ t)
at_fits b [] s h = grind (arith, and_parts)
at_fits b (c ∷ t) s h = omega arith

pub name-local : (more : List ℕ) → AtLineEnd more → IsLocal look_in_name more
name-local more e b t = grind (arith, begins_line (codes "@(") (b ∷ t) more refl e)

at-units : (b : ℕ) (t : List ℕ) → starts_section (b ∷ t) ≡ false
    → IsWithin (if begins (codes "@") (b ∷ t) then Goes 2 else Goes 1) (length (b ∷ t))
at-units b t h = grind (arith, within_if (begins (codes "@") (b ∷ t)) (Goes 2) (Goes 1), at_fits b t h)

pub name-units : AllWithin look_in_name
name-units b t = grind (arith, within_if, at-units)

pub comment-local : (closes : List ℕ → Bool) (size : ℕ) (more : List ℕ) → AtLineEnd more
    → ((b : ℕ) (t : List ℕ) → closes (b ∷ t ++ more) ≡ closes (b ∷ t)) → IsLocal (look_in_comment closes size) more
comment-local closes size more e same b t = grind arith

pub comment-units : (closes : List ℕ → Bool) (size : ℕ) → AllWithin (look_in_comment closes size)
comment-units closes size b t = grind (arith, within_if, at-units)

doubled-units : (b : ℕ) (t : List ℕ)
    → IsWithin (if begins (codes "@@") (b ∷ t) then Goes 2 else Goes 1) (length (b ∷ t))
doubled-units b t = grind (arith, begins-size (codes "@@") (b ∷ t))

pub include-local : (more : List ℕ) → AtLineEnd more → IsLocal look_in_include more
include-local more e b t = grind arith

pub include-units : AllWithin look_in_include
include-units b t = grind (arith, within_if, doubled-units)

-- The closer of a raw literal has no newline.
pub raw-local : (sign more : List ℕ) → list_all in_line sign ≡ true → AtLineEnd more → IsLocal (look_in_raw sign) more
raw-local sign more a e b t =
    λ i. if begins_line sign (b ∷ t) more a e i then Ends (length sign) Closed else (if starts_section_line
    b t more e i then Ends 0 Cut else (if begins_line (codes "@@") (b ∷ t) more refl e i then Goes 2 else Goes 1))

pub raw-units : (sign : List ℕ) → AllWithin (look_in_raw sign)
raw-units sign b t = grind (arith, within_if, doubled-units)

-- In a literal this holds at each seam without an `@` after it.
pub literal-local : (quote : ℕ) (more : List ℕ)
    → first_is (λ b. b == 64) more ≡ false → IsLocal (look_in_literal quote) more
literal-local quote more stop b t = grind (arith, begins_stop)

-- If no unit is empty, an item that ended before a seam has no unit over it.
abbrev pub IsSome : Look → Type 0
IsSome (Goes n) = 0 < n
IsSome (Ends n how) = IsEnd how

abbrev pub AllSome : (List ℕ → Look) → Type 0
AllSome look = (b : ℕ) (t : List ℕ) → IsSome (look (b ∷ t))

ended_at : (look : List ℕ → Look) (b : ℕ) (t : List ℕ) (v : Look) → IsSome v
    → ((k : ℕ) → is_unclosed (reach_in look Open k t).how ≡ false → IsWhole look k t)
    → is_unclosed (at_start look v (b ∷ t) Open t).how ≡ false → WholeAt look v t
ended_at look b t (Goes n) h f g = (h, f (n - 1) g)
ended_at look b t (Ends n how) h f g = h

ended_in : (look : List ℕ → Look) → AllSome look → (k : ℕ) (t : List ℕ)
    → is_unclosed (reach_in look Open k t).how ≡ false → IsWhole look k t
ended_in look some k [] h = cc
ended_in look some (suc k) (b ∷ t) h = ended_in look some k t h
ended_in look some zero (b ∷ t) h = ended_at look b t (look (b ∷ t)) (some b t) (λ k f. ended_in look some k t f) h

pub ended_whole : (look : List ℕ → Look) → AllSome look → (t : List ℕ)
    → is_unclosed (reach look Open t).how ≡ false → IsWhole look 0 t
ended_whole look some t h = ended_in look some 0 t h

some_if : (v : Bool) (x y : Look) → IsSome x → IsSome y → IsSome (if v then x else y)
some_if true x y f g = f
some_if false x y f g = g

pub literal-some : (quote : ℕ) → AllSome (look_in_literal quote)
literal-some quote b t = grind (arith, some_if)

pub all_some : (look : List ℕ → Look) → AllWithin look → AllSome look
all_some look h b t = grind arith
