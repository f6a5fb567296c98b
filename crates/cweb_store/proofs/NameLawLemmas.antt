-- Laws of names, abbreviations and their faults.
use Rattle.cweb_store.proofs.Common.{◌≡◌, ℕ, zero, suc, ◌+◌, ◌<◌, true, false, List, [], ◌∷◌, ◌++◌, Some, None, Option, length, take, drop, refl, sym, ◌∙◌, subst, arith, eq-eqb, Ok, Err, nat_eq, slice_get, option_map, option_and_then, filter, option_to_list, starts_with, eqb-true, take-append-drop, NameId, NeverFull, Occurrence, Name, Resolution, spellings, with_full_name, with_occurrence_name, names_from, names, beginning_from, beginning, the_one, resolved_among, unresolved_fault, Distinct, NamesAreDistinct, AbbreviationsBeginTheirNames, OneFaultForNoName}
use Rattle.cweb_store.specs.laws.Laws.{is_at}
use Rattle.cweb_store.proofs.RangeLemmas.{drop-here}
use Rattle.cweb_store.proofs.NameLemmas.{Distinct-push, strings-push}
use Rattle.cweb_store.proofs.LongerLemmas.{beginning-step}
use Rattle.cweb_store.proofs.OccurrenceLemmas.{Grows, names_from-grows}
use Rattle.cweb_store.proofs.LawLemmas.{resolutions-at, among-prefix, names_from-append}
use Rattle.cweb_store.proofs.FaultLemmas.{unresolved_faults_from}

with_text-distinct : (i : ℕ) (ns : List Name) (text : List ℕ)
    → Distinct (spellings ns) → Distinct (spellings (with_full_name i ns text))
with_text-distinct i ns text d = grind (arith, strings-push ns, Distinct-push (spellings ns) text d)

with_name-distinct : (i : ℕ) (ns : List Name) (o : Occurrence)
    → Distinct (spellings ns) → Distinct (spellings (with_occurrence_name i ns o))
with_name-distinct i ns o d = grind (arith, with_text-distinct i ns o.text d)

distinct-from : (i : ℕ) (ns : List Name) (os : List Occurrence)
    → Distinct (spellings ns) → Distinct (spellings (names_from i ns os))
distinct-from i ns [] d = d
distinct-from i ns (o ∷ os) d = distinct-from (i + 1) (with_occurrence_name i ns o) os (with_name-distinct i ns o d)

pub names_are_distinct : NamesAreDistinct
names_are_distinct os = distinct-from 0 [] os tt

abbrev Begins : List ℕ → List Name → NameId → Type 0
Begins p ns n = option_map (λ (m : Name). starts_with nat_eq m.text p) (slice_get ns n.0) ≡ Some true

first-begins : (all ns : List Name) (i : ℕ) (p : List ℕ) (n : NameId) (more : List NameId)
    → drop i all ≡ ns → beginning_from i p ns ≡ n ∷ more → Begins p all n
first-begins all [] i p n more h found = cc
first-begins all (m ∷ ns) i p n more h found =
    grind (arith, drop-here, found, beginning-step, more, first-begins all ns (i + 1) p n more)

get-grows : (ns more : List Name) (k : ℕ) (p : List ℕ)
    → option_map (λ (m : Name). starts_with nat_eq m.text p) (slice_get ns k) ≡ Some true
    → option_map (λ (m : Name). starts_with nat_eq m.text p) (slice_get (ns ++ more) k) ≡ Some true
get-grows [] more k p h = cc
get-grows (n ∷ ns) more zero p h = h
get-grows (n ∷ ns) more (suc k) p h = get-grows ns more k p h

begins-grows : (p : List ℕ) (old new : List Name) (n : NameId) → Grows old new → Begins p old n → Begins p new n
begins-grows p old new n g h = subst (λ (ns : List Name). Begins p ns n) (sym g.grows) (get-grows old g.more n.0 p h)

stored-begins : (p : List ℕ) (before all : List Name) (n : NameId) → Grows before all
    → the_one (beginning p before) (the_one (beginning p all) (Err NeverFull)) ≡ Ok n → Begins p all n
stored-begins p before all n g h =
    grind (arith, begins-grows p before all n g, first-begins before before 0 p n, first-begins all all 0 p n)

text-begins : (p : List ℕ) (found : Option Name) (text : List ℕ)
    → option_map (λ (m : Name). starts_with nat_eq m.text p) found ≡ Some true
    → option_map (λ (m : Name). m.text) found ≡ Some text → starts_with nat_eq text p ≡ true
text-begins p None text h g = cc
text-begins p (Some m) text h g = cc

standing-begins : (p : List ℕ) (all : List Name) (r : Resolution) (text : List ℕ)
    → ((n : NameId) → r ≡ Ok n → Begins p all n) →
    option_and_then (λ (n : NameId). option_map (λ (m : Name). m.text) (slice_get all n.0))
    (elim r [ Ok n ↦ Some n | Err kind ↦ None ]) ≡ Some text → starts_with nat_eq text p ≡ true
standing-begins p all (Ok n) text begins is = text-begins p (slice_get all n.0) text (begins n refl) is
standing-begins p all (Err kind) text begins is = cc

prefix-grows : (i : ℕ) (os : List Occurrence) → Grows (names_from 0 [] (take i os)) (names os)
prefix-grows i os =
    let head = take i os in
    subst (λ (xs : List Occurrence). Grows (names_from 0 [] head) (names xs)) (take-append-drop i os)
    (subst (Grows (names_from 0 [] head)) (sym (names_from-append 0 (length head) [] head (drop i os) (omega arith)))
    (names_from-grows (length head) (names_from 0 [] head) (drop i os)))

pub abbreviations_begin_their_names : AbbreviationsBeginTheirNames
abbreviations_begin_their_names os i o text there prefix is =
    let all = names os in
    let before = names_from 0 [] (take i os) in
    standing-begins o.text all (resolved_among before all o) text (λ n e. stored-begins o.text before all n
    (prefix-grows i os) (sym (among-prefix before all o.text o.how o.is_file prefix) ∙ e))
    (cc (resolutions-at 0 [] all os i o there, is))

differs : (j k : ℕ) → (j ≡ k → ⊥) → nat_eq j k ≡ false
differs j k apart = grind (arith, eqb-true j k)

no-faults : (k j : ℕ) (rs : List Resolution) → k < j → filter (is_at k) (unresolved_faults_from j rs) ≡ []
no-faults k j [] h = refl
no-faults k j (Ok m ∷ rs) h = no-faults k (j + 1) rs (omega arith)
no-faults k j (Err kind ∷ rs) h = grind (arith, differs j k, no-faults k (j + 1) rs (omega arith))

own-fault : (j k : ℕ) (rs : List Resolution) (i : ℕ) (r : Resolution) → slice_get rs i ≡ Some r
    → k ≡ j + i → filter (is_at k) (unresolved_faults_from j rs) ≡ option_to_list (unresolved_fault k r)
own-fault j k [] i r h e = cc
own-fault j k (Ok m ∷ rs) zero r h e = grind (arith, no-faults k (j + 1) rs (omega arith))
own-fault j k (Err kind ∷ rs) zero r h e = grind (arith, eq-eqb, no-faults)
own-fault j k (Ok m ∷ rs) (suc i) r h e = own-fault (j + 1) k rs i r h (omega arith)
own-fault j k (Err kind ∷ rs) (suc i) r h e = grind (arith, differs j k, own-fault (j + 1) k rs i r h (omega arith))

pub one_fault_for_no_name : OneFaultForNoName
one_fault_for_no_name rs i r h = own-fault 0 i rs i r h (omega arith)
