-- Membership in lists of names, and the names of parts and their ranges.
use Rattle.cweb_store.proofs.Common.{arith, ◌≡◌, ℕ, ◌+◌, ◌||◌, List, [], ◌∷◌, Some, None, Option, length, refl, sym, ap, list_any, eqb-true, list_any-append, NameId, PartRange, Resolution, Part, is_id, with_id, with_some, is_some_id, is_of, ranges_from, has_part, or-false}

any-with_id : (n m : NameId) (ns : List NameId)
    → list_any (is_id n) (with_id ns m) ≡ (list_any (is_id n) ns || is_id n m)
any-with_id n m ns = grind (arith, eqb-true, list_any-append, or-false)

pub any-with_some : (n : NameId) (o : Option NameId) (ns : List NameId)
    → list_any (is_id n) (with_some ns o) ≡ (list_any (is_id n) ns || is_some_id n o)
any-with_some n None ns = sym (or-false (list_any (is_id n) ns))
any-with_some n (Some m) ns = any-with_id n m ns

-- A range of a name is there exactly if a part belongs to the name.
pub any-part : (rs : List Resolution) (n : NameId) (k : ℕ) (ps : List Part)
    → list_any (λ (r : PartRange). is_of rs n r.kind) (ranges_from k ps) ≡ has_part rs ps n
any-part rs n k [] = refl
any-part rs n k (p ∷ ps) = ap (λ b. is_of rs n p.kind || b) (any-part rs n (k + length p.tokens) ps)
