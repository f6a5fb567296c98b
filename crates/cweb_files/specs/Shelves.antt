-- What is known of a shelf, and how calls change it.
use Rattle.std.specs.Prelude.{◌≡◌, ◌+◌, ℕ, List, [], ◌∷◌, ◌++◌, Option, None, Some, option_map}

-- The contents of each name that has some. The bytes that each reader has not read yet, and the name under which it was
-- opened. The reader's name for each failed read, in order. A name is given by its UTF-8 bytes.
pub record ShelfContents (R : Type 0) : Type 0 where
  pub texts : List ℕ → Option (List ℕ)
  pub left : R → List ℕ
  pub opened_as : R → List ℕ
  pub blamed : List (List ℕ)

-- A shelf: the number of failed reads, and the contents if they are observable, which never changes.
pub record ShelfModel (R : Type 0) : Type 0 where
  pub failed : ℕ
  pub contents : Option (ShelfContents R)

-- If the contents are observable, this holds of them.
abbrev pub Observed : {R : Type 0} → ShelfModel R → (ShelfContents R → Type 0) → Type 0
Observed {R = R} shelf Says = (seen : ShelfContents R) → shelf.contents ≡ Some seen → Says seen

-- A read of this reader fails, which blames its name.
abbrev pub failed_read : {R : Type 0} → R → ShelfModel R → ShelfModel R
failed_read {R = R} reader shelf = record {
  failed = shelf.failed + 1;
  contents = option_map (λ (now : ShelfContents R).
      record now { blamed = now.blamed ++ now.opened_as reader ∷ [] }) shelf.contents;
}

-- A reader that was found has the contents of the name left, and was opened under it. None is returned only where the
-- name has no contents.
abbrev pub Finds : {R : Type 0} → ShelfContents R → List ℕ → Option R → Type 0
Finds seen name None = seen.texts name ≡ None
Finds seen name (Some reader) = (seen.texts name ≡ Some (seen.left reader)) × (seen.opened_as reader ≡ name)
