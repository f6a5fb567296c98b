-- In a plan, the names that an output's list uses have ranks.
use Rattle.cweb_out.proofs.Common.{ends_below, list_all, ◌≡◌, ◌<◌, ℕ, zero, suc, Bool, true, false, not, List, [], ◌∷◌, refl, Option, Some, None, map, length, arith, cond, slice_index_or, Result, Ok, Err, find, bytes_eq, get_or-map, length-map, Stored, names, uses, list_ends, Planned, Refusal, bad_name, same_name, cycle, outputs, root_list, output_of, output_name, name_spelling, is_good_name, planned_apart, planned_ending, has_no_program, start_of, root_at, IsPlanOf, cycle_from}
use Rattle.cweb_store.specs.Names as spec

abbrev outcome : {A : Type 0} → Option A → (A → Refusal) → Result Planned Refusal → Result Planned Refusal
outcome found why r = elim found [ Some x ↦ Err (why x) | None ↦ r ]

-- A search that would have caused a refusal found nothing.
unrefused : {A : Type 0} (found : Option A) (why : A → Refusal) (r : Result Planned Refusal) (p : Planned)
    → outcome found why r ≡ Ok p → (found ≡ None) × (r ≡ Ok p)
unrefused (Some x) why r p h = cc
unrefused None why r p h = (refl, h)

-- If no element fails a test, each passes.
found_none : {A : Type 0} (test : A → Bool) (xs : List A) (i : ℕ) (d : A)
    → find (λ x. not (test x)) xs ≡ None → i < length xs → test (slice_index_or xs i d) ≡ true
found_none test [] i d h lt = absurd (omega arith)
found_none test (x ∷ xs) i d h lt = by i lt (test x) refl h (λ j l e. found_none test xs j d e l)
  where
    by : (i : ℕ) → i < length (x ∷ xs) → (b : Bool) → test x ≡ b → cond (not b) (Some x) (find (λ y. not (test y)) xs)
        ≡ None → ((j : ℕ) → j < length xs → find (λ y. not (test y)) xs ≡ None → test (slice_index_or xs j d) ≡ true)
        → test (slice_index_or (x ∷ xs) i d) ≡ true
    by i lt false e h later = cc
    by zero lt true e h later = e
    by (suc j) lt true e h later = later j (omega arith) h

pub root_below : (w : Stored) (p : Planned) (number : ℕ) → IsPlanOf w p → number < length p.outputs
    → list_all (ends_below w (names w)) (uses w (root_list w (root_at p.outputs number))) ≡ true
root_below w p number made lt =
    let main = made.0 in
    let apart = unrefused (find (λ o. not (is_good_name (output_name w main o))) (outputs w))
    (λ o. bad_name o) (planned_apart w main) p made.1 in
    let ending = unrefused (find (λ n. bytes_eq (name_spelling w n) main) (spec.files w.occurrences))
    (λ n. same_name n) (planned_ending w main) p apart.1 in
    let ends =
    unrefused (find (λ o. not (list_ends w (root_list w o))) (outputs w)) (λ o. cycle (cycle_from w (start_of w o)))
    (Ok (record { outputs = map (output_of w main) (outputs w); no_text = has_no_program w })) p ending.1 in
    let are : map (output_of w main) (outputs w) ≡ p.outputs = cc (ends.1) in
    let within : number < length (outputs w) = grind (arith, length-map) in
    let root : root_at p.outputs number ≡ slice_index_or (outputs w) number None = grind (arith, get_or-map) in
    rw root (found_none (λ o. list_ends w (root_list w o)) (outputs w) number None ends.0 within)
