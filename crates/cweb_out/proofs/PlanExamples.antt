-- Worked examples of plans.
use Rattle.cweb_out.proofs.Common.{ℕ, ◌≡◌, List, [], ◌∷◌, Some, codes, true, false, Err, id, Token, Punct, Name, Stored, program, ends_below, has_rank, list_ends, first_endless, name_rank, cycle_from, cycle, planned_ending}
use Rattle.cweb_store.specs.declared.name.How.TheVariants.{Full}
use Rattle.cweb_store.specs.declared.parts.PartKind.{PartKind}
use Rattle.cweb_store.specs.declared.parts.PartKind.TheVariants.{Unnamed, Named}
use Rattle.cweb_store.specs.Names.{Occurrence}
use Rattle.cweb_store.specs.Parts.{Part}

abbrev full : List ℕ → Occurrence
full text = record { text = text; how = Full; is_file = false }

abbrev part : PartKind → List Token → Part
part kind tokens = record { kind = kind; tokens = tokens }

abbrev of : ℕ → PartKind
of r = Named (record { 0 = r })

abbrev use_ : ℕ → Token
use_ r = Name (record { 0 = r })

-- A uses B, B uses A, and the program uses A.
abbrev pub two : Stored
two = record {
  occurrences = full (codes "A") ∷ full (codes "B") ∷ [];
  parts = part Unnamed (use_ 0 ∷ []) ∷ part (of 0) (use_ 1 ∷ []) ∷ part (of 1) (use_ 0 ∷ []) ∷ [];
  replacements = [];
}

-- A, B and the program use the next name twice. The last occurrence resolves to a name without parts.
abbrev pub twice : Stored
twice = record {
  occurrences = full (codes "A") ∷ full (codes "B") ∷ full (codes "C") ∷ full (codes "D") ∷ [];
  parts = part Unnamed (use_ 0 ∷ use_ 0 ∷ []) ∷ part (of 0) (use_ 1 ∷ use_ 1 ∷ [])
      ∷ part (of 1) (use_ 2 ∷ use_ 2 ∷ []) ∷ part (of 2) (Punct (codes ";") ∷ use_ 3 ∷ []) ∷ [];
  replacements = [];
}

-- Two files, each of which uses itself.
abbrev files : Stored
files = record {
  occurrences = record (full (codes "f.c")) { is_file = true } ∷ record (full (codes "g.c")) { is_file = true } ∷ [];
  parts = part (of 0) (use_ 0 ∷ []) ∷ part (of 1) (use_ 1 ∷ []) ∷ [];
  replacements = [];
}

record Computed : Type 0 where
  the_first_of_two_cycles_is_reported : planned_ending files (codes "a.c") ≡ Err (cycle (id 0 ∷ id 0 ∷ []))
  two_names_that_use_each_other : cycle_from two (first_endless two (program two)) ≡ id 0 ∷ id 1 ∷ id 0 ∷ []
  from_the_second : cycle_from two (Some (id 1)) ≡ id 1 ∷ id 0 ∷ id 1 ∷ []
  the_plan_is_refused : planned_ending two (codes "a.c") ≡ Err (cycle (id 0 ∷ id 1 ∷ id 0 ∷ []))
  a_name_used_twice_is_no_cycle : list_ends twice (program twice) ≡ true
  the_rank_of_the_first_is_three : name_rank twice (id 0) ≡ 3
  it_is_not_below_three : ends_below twice 3 (id 0) ≡ false
  the_rank_of_the_first_is_below_four : ends_below twice 4 (id 0) ≡ true
  the_first_of_four_names_has_a_rank : has_rank twice (id 0) ≡ true
  names_that_use_each_other_have_no_rank : has_rank two (id 0) ≡ false
  nor_has_one_a_rank_below_seven : ends_below two 7 (id 0) ≡ false

computed : Computed
computed = search
