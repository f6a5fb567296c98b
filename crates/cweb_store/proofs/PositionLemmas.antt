-- Recorded positions of numbers in a list without repetitions.
use Rattle.cweb_store.proofs.Common.{◌≡◌, ◌||◌, ℕ, zero, suc, Ok, Full, None, Resolution, Bool, true, false, List, [], ◌∷◌, ◌++◌, Option, Some, inl, inr, set, refl, sym, subst, ◌∙◌, ap, arith, slice_get, list_any, list_any-append, NameId, if◌then◌else◌}
use Rattle.std.specs.Prelude.{nat_eq}
use Rattle.std.specs.List.{position_or_len}
use Rattle.indexmap.specs.IndexSet.{insert_key}
use Rattle.std.specs.Prelude.{replicate}
use Rattle.cweb_store.specs.declared.occurrences.OccurrenceRecord.{OccurrenceRecord}
use Rattle.cweb_store.specs.Names.{id}
use Rattle.cweb_store.specs.inner.Known.{ArePositions, IsPosition, number_at, with_number}
use Rattle.cweb_store.proofs.ListLemmas.{get-set}

-- Further numbers don't move the first one that passes a test.
position-append : (test : ℕ → Bool) (xs ys : List ℕ) → list_any test xs ≡ true
    → position_or_len test (xs ++ ys) ≡ position_or_len test xs
position-append test [] ys among = cc
position-append test (x ∷ xs) ys among = grind (arith, test x, position-append test xs ys)

position-new : (test : ℕ → Bool) (xs : List ℕ) (x : ℕ) → list_any test xs ≡ false → test x ≡ true
    → position_or_len test (xs ++ x ∷ []) ≡ position_or_len test xs
position-new test [] x none passes = grind (arith)
position-new test (y ∷ xs) x none passes = grind (arith, test y, position-new test xs x)

by_kept : (numbers : List ℕ) (number s : ℕ) (at : NameId) (has : Bool) → IsPosition numbers number at
    → IsPosition (if has then numbers else numbers ++ s ∷ []) number at
by_kept numbers number s at true is = is
by_kept numbers number s at false is = record {
  among = list_any-append (nat_eq number) numbers (s ∷ []) ∙ ap (λ b. b || list_any (nat_eq number) (s ∷ [])) is.among;
  position = position-append (nat_eq number) numbers (s ∷ []) is.among ∙ is.position;
}

-- The positions stay when a number is inserted.
pub positions-kept : (numbers : List ℕ) (s : ℕ) (positions : List (Option NameId)) → ArePositions numbers positions
    → ArePositions (insert_key nat_eq numbers s) positions
positions-kept numbers s positions are = λ number at there.
    by_kept numbers number s at (list_any (nat_eq s) numbers) (are number at there)

by_new : (numbers : List ℕ) (s : ℕ) (at : NameId) (has : Bool) → list_any (nat_eq s) numbers ≡ has
    → position_or_len (nat_eq s) numbers ≡ at.0 → IsPosition (if has then numbers else numbers ++ s ∷ []) s at
by_new numbers s at true has is = record { among = has; position = is }
by_new numbers s at false has is = record {
  among = grind (arith, list_any-append (nat_eq s) numbers (s ∷ []));
  position = position-new (nat_eq s) numbers s has (grind arith) ∙ is;
}

-- That of the inserted number.
pub position-inserted : (numbers : List ℕ) (s : ℕ) (at : NameId) → position_or_len (nat_eq s) numbers ≡ at.0
    → IsPosition (insert_key nat_eq numbers s) s at
position-inserted numbers s at is = by_new numbers s at (list_any (nat_eq s) numbers) refl is

pub positions-set : (numbers : List ℕ) (positions : List (Option NameId)) (number : ℕ) (at : NameId)
    → ArePositions numbers positions → IsPosition numbers number at
    → ArePositions numbers (set positions number (Some at))
positions-set numbers positions number at are is = λ k found there.
    elim (get-set positions number k (Some at) (Some found) there) [
      | inl e ↦ (let same : at ≡ found = cc (e.1) in
          subst (λ m. IsPosition numbers m found) (sym e.0) (subst (λ x. IsPosition numbers number x) same is))
      | inr o ↦ are k found o
    ]

-- A number with a recorded position is inserted already.
pub inserted-already : (numbers : List ℕ) (s : ℕ) (at : NameId) → IsPosition numbers s at
    → insert_key nat_eq numbers s ≡ numbers
inserted-already numbers s at is = ap (λ b. if b then numbers else numbers ++ s ∷ []) is.among

-- A full name whose spelling has a recorded position.
pub record IsNumbered (numbers : List ℕ) (r : OccurrenceRecord) (at : NameId) : Type 0 where
  pub number : number_at numbers r ≡ Ok at
  pub same : with_number numbers r ≡ numbers

pub number-recorded : (numbers : List ℕ) (positions : List (Option NameId)) (r : OccurrenceRecord) (s : ℕ) (at : NameId)
    → ArePositions numbers positions → r.how ≡ Full → s ≡ r.spelling → slice_get positions s ≡ Some (Some at)
    → IsNumbered numbers r at
number-recorded numbers positions r s at are full spelling there =
    let is = are s at there in
    let plain : OccurrenceRecord = record { spelling = s; how = Full; is_file = r.is_file } in
    let same : r ≡ plain = λ i. record { spelling = sym spelling i; how = full i; is_file = r.is_file } in
    record {
      number = ap (number_at numbers) same ∙ ap (λ p. let x : Resolution = Ok (id p) in x) is.position;
      same = ap (with_number numbers) same ∙ inserted-already numbers s at is;
    }

-- At first none is recorded.
pub none-recorded : (n number : ℕ) (at : NameId) → slice_get (replicate n None) number ≡ Some (Some at) → ⊥
none-recorded zero number at there = cc
none-recorded (suc n) zero at there = cc
none-recorded (suc n) (suc number) at there = none-recorded n number at there
