-- The concatenation of the strings of a list, up to an item and from it on.
use Rattle.std.proofs.Common.{arith, ◌≡◌, ◌<◌, ◌+◌, ◌++◌, [], ◌∷◌, append_assoc, append-nil, ℕ, List, length, take, drop, suc, get_or, drop-cons}
use Rattle.std.specs.Prelude.{flat_map}
use Rattle.std.proofs.lemmas.List.{take-append-drop, take_more}
use Rattle.std.proofs.lemmas.List.Concat.{flat_map-append}

-- A list's strings: those before an item, that of the item, and those after it.
pub flat_at : {X : Type 0} (f : X → List ℕ) (xs : List X) (i : ℕ) (d : X) → i < length xs
    → flat_map f xs ≡ (flat_map f (take i xs) ++ f (get_or xs i d)) ++ flat_map f (drop (suc i) xs)
flat_at f xs i d lt =
    grind (
      arith,
      take-append-drop i xs,
      flat_map-append f (take i xs) (drop i xs),
      drop-cons xs i d lt,
      append_assoc
          (flat_map f (take i xs)) (f (get_or xs i d)) (flat_map f (drop (suc i) xs)),
      f (get_or xs i d),
    )

pub flat_more : {X : Type 0} (f : X → List ℕ) (xs : List X) (i : ℕ) (d : X) → i < length xs
    → flat_map f (take i xs) ++ f (get_or xs i d) ≡ flat_map f (take (i + 1) xs)
flat_more f xs i d lt =
    grind (
      arith,
      take_more xs i d lt,
      flat_map-append f (take i xs) (get_or xs i d ∷ []),
      append-nil (f (get_or xs i d)),
    )
