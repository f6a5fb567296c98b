-- Parts as ranges of token indices.
use Rattle.cweb_store.proofs.Common.{◌≡◌, ℕ, ◌+◌, ◌≤◌, ◌<◌, Bool, true, List, [], ◌∷◌, map, filter, length, drop, refl, arith, length-append, All, AllByRecursion, list_any, take-append_seam, drop-append_seam, All-from_recursion, PartKind, PartRange, Token, Part, all_tokens, joined_where, numbers_where, tokens_at, ranges_from, drop-drop}
use Rattle.cweb_store.specs.surface.Tokens.{numbers_from}
use Rattle.cweb_store.specs.declared.parts.Part as declared

-- Filtering ranges gives the index ranges of the filtered parts.
pub part-ranges : (test : PartKind → Bool) (n : ℕ) (ps : List Part)
    → map (λ (r : PartRange). r.part) (filter (λ (r : PartRange). test r.kind) (ranges_from n ps))
    ≡ numbers_from test n ps
part-ranges test n [] = refl
part-ranges test n (p ∷ ps) = grind (arith, test p.kind, part-ranges test (n + length p.tokens) ps)

text_from : (test : PartKind → Bool) (parts : List Part) (n : ℕ) (ts : List Token)
    → drop n ts ≡ all_tokens parts → tokens_at ts (numbers_from test n parts) ≡ joined_where test parts
text_from test [] n ts h = refl
text_from test (p ∷ parts) n ts h =
    grind (
      arith,
      take-append_seam p.tokens (all_tokens parts),
      drop-drop,
      drop-append_seam p.tokens (all_tokens parts),
      text_from test parts,
    )

-- The tokens of the filtered parts' ranges are these parts joined.
pub tokens_at-numbers : (test : PartKind → Bool) (parts : List Part)
    → tokens_at (all_tokens parts) (numbers_where test parts) ≡ joined_where test parts
tokens_at-numbers test parts = text_from test parts 0 (all_tokens parts) refl

within_from : (test : PartKind → Bool) (parts : List Part) (n end : ℕ) → n + length (all_tokens parts) ≤ end
    → AllByRecursion (λ (p : declared.Part). p.after ≤ end) (numbers_from test n parts)
within_from test [] n end h = tt
within_from test (p ∷ parts) n end h =
    grind (
      arith,
      test p.kind,
      h,
      length-append p.tokens (all_tokens parts),
      within_from test parts (n + length p.tokens) end,
    )

-- The ranges are within the tokens.
pub numbers-within : (test : PartKind → Bool) (parts : List Part)
    → All (λ (p : declared.Part). p.after ≤ length (all_tokens parts)) (numbers_where test parts)
numbers-within test parts = grind (arith, All-from_recursion, within_from)

ordered_from : (test : PartKind → Bool) (parts : List Part) (n : ℕ)
    → AllByRecursion (λ (p : declared.Part). p.first ≤ p.after) (numbers_from test n parts)
ordered_from test [] n = tt
ordered_from test (p ∷ parts) n = grind (arith, ordered_from test parts (n + length p.tokens), test p.kind)

pub numbers-ordered : (test : PartKind → Bool) (parts : List Part)
    → All (λ (p : declared.Part). p.first ≤ p.after) (numbers_where test parts)
numbers-ordered test parts = grind (arith, All-from_recursion, ordered_from test parts 0)

some_from : (test : PartKind → Bool) (parts : List Part) (n : ℕ)
    → (list_any (λ (p : Part). test p.kind) parts ≡ true → 0 < length (numbers_from test n parts))
    × (0 < length (numbers_from test n parts) → list_any (λ (p : Part). test p.kind) parts ≡ true)
some_from test [] n = (λ h. cc, λ h. absurd (let none : ⊥ = omega arith in none))
some_from test (p ∷ parts) n = grind (arith, some_from test parts (n + length p.tokens), test p.kind)

-- There is a range exactly if a part passes the test.
pub numbers-some : (test : PartKind → Bool) (parts : List Part)
    → (list_any (λ (p : Part). test p.kind) parts ≡ true → 0 < length (numbers_where test parts))
    × (0 < length (numbers_where test parts) → list_any (λ (p : Part). test p.kind) parts ≡ true)
numbers-some test parts = some_from test parts 0
