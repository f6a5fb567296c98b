-- The laws of names and parts.
use Rattle.cweb_store.proofs.Common.{◌≡◌, ℕ, zero, suc, ◌+◌, Bool, true, false, List, [], ◌∷◌, ◌++◌, Some, length, take, refl, sym, ◌∙◌, ap, arith, append_assoc, append-nil, Ok, Err, bytes_eq, if◌then◌else◌, nat_eq, slice_get, option_map, fold, filter_map, list_any, starts_with, position_or_len, map-append, bytes_eq-Decides, list_any-append, How, Full, Prefix, NeverFull, PartKind, Occurrence, Name, id, spellings, with_full_name, with_occurrence_name, names_from, names, beginning_from, beginning, the_one, resolved_among, resolutions_from, Part, joined_where, Call, Occurs, Contents, after_call, empty, defines_with_prefix, AbbreviationsStay, EarlierNamesDecide, FullNamesResolveToThemselves, JoiningConcatenates, OccurrencesAreThoseOfCalls, occurrence_of_call, take-append_seam}
use Rattle.std.proofs.lemmas.List.{take-append-le}
use Rattle.std.proofs.lemmas.Option.{slice_get_within}
use Rattle.cweb_store.specs.laws.Laws.{NamesDecideResolutions}
use Rattle.cweb_store.proofs.LongerLemmas.{beginning-step}
use Rattle.cweb_store.proofs.OccurrenceLemmas.{Grows, names_from-grows, with_text-has}

-- The resolution of occurrence k, from the names before it and all names.
pub resolutions-at : (i : ℕ) (before all : List Name) (os : List Occurrence) (k : ℕ) (o : Occurrence)
    → slice_get os k ≡ Some o
    → slice_get (resolutions_from i before all os) k ≡ Some (resolved_among (names_from i before (take k os)) all o)
resolutions-at i before all [] k o h = cc
resolutions-at i before all (x ∷ os) zero o h = grind arith
resolutions-at i before all (x ∷ os) (suc k) o h = resolutions-at (i + 1) (with_occurrence_name i before x) all os k o h

get-append : (os later : List Occurrence) (k : ℕ) (o : Occurrence)
    → slice_get os k ≡ Some o → slice_get (os ++ later) k ≡ Some o
get-append [] later k o h = cc
get-append (x ∷ os) later zero o h = h
get-append (x ∷ os) later (suc k) o h = get-append os later k o h

take-before : (os later : List Occurrence) (k : ℕ) (o : Occurrence)
    → slice_get os k ≡ Some o → take k (os ++ later) ≡ take k os
take-before os later k o h = take-append-le k os later (omega (arith, slice_get_within os k o h))

pub names_from-append : (i j : ℕ) (ns : List Name) (os later : List Occurrence)
    → j ≡ i + length os → names_from i ns (os ++ later) ≡ names_from j (names_from i ns os) later
names_from-append i j ns [] later e = ap (λ k. names_from k ns later) (let same : i ≡ j = omega arith in same)
names_from-append i j ns (o ∷ os) later e =
    names_from-append (i + 1) j (with_occurrence_name i ns o) os later (omega arith)

beginning-other : (i : ℕ) (p : List ℕ) (ns : List Name) (n : Name)
    → starts_with nat_eq n.text p ≡ false → beginning_from i p (ns ++ n ∷ []) ≡ beginning_from i p ns
beginning-other i p [] n h = beginning-step i p n [] ∙ ap (λ b. if b then id i ∷ [] else []) h
beginning-other i p (m ∷ ns) n h = grind (arith, beginning-step, beginning-other (i + 1) p ns n h)

beginning-with_text : (j : ℕ) (p : List ℕ) (ns : List Name) (text : List ℕ)
    → starts_with nat_eq text p ≡ false → beginning p (with_full_name j ns text) ≡ beginning p ns
beginning-with_text j p ns text h = grind (arith, beginning-other 0 p ns)

beginning-with_name : (j : ℕ) (p : List ℕ) (ns : List Name) (text : List ℕ) (how : How) (is_file : Bool) →
    let o : Occurrence = record { text = text; how = how; is_file = is_file } in
    defines_with_prefix p o ≡ false → beginning p (with_occurrence_name j ns o) ≡ beginning p ns
beginning-with_name j p ns text Full is_file h = beginning-with_text j p ns text h
beginning-with_name j p ns text Prefix is_file h = refl

-- Names that don't begin with a prefix don't change its matches.
beginning-later : (j : ℕ) (p : List ℕ) (ns : List Name) (later : List Occurrence)
    → list_any (defines_with_prefix p) later ≡ false → beginning p (names_from j ns later) ≡ beginning p ns
beginning-later j p ns [] h = refl
beginning-later j p ns (o ∷ later) h =
    grind (
      arith,
      beginning-later (j + 1) p (with_occurrence_name j ns o) later,
      beginning-with_name j p ns o.text o.how o.is_file,
    )

pub among-prefix : (before all : List Name) (text : List ℕ) (how : How) (is_file : Bool) → how ≡ Prefix →
    let o : Occurrence = record { text = text; how = how; is_file = is_file } in
    resolved_among before all o ≡ the_one (beginning text before) (the_one (beginning text all) (Err NeverFull))
among-prefix before all text Full is_file h = cc
among-prefix before all text Prefix is_file h = refl

among-full : (before all : List Name) (text : List ℕ) (how : How) (is_file : Bool) → how ≡ Full →
    let o : Occurrence = record { text = text; how = how; is_file = is_file } in
    resolved_among before all o ≡ Ok (id (position_or_len (bytes_eq text) (spellings all)))
among-full before all text Full is_file h = refl
among-full before all text Prefix is_file h = cc

pub abbreviations_stay : AbbreviationsStay
abbreviations_stay os later i o there prefix none =
    let before = names_from 0 [] (take i os) in
    cc (
      names_from-append 0 (length os) [] os later (omega arith),
      beginning-later (length os) o.text (names os) later none,
      resolutions-at 0 [] (names (os ++ later)) (os ++ later) i o (get-append os later i o there),
      take-before os later i o there,
      among-prefix before (names (os ++ later)) o.text o.how o.is_file prefix,
      among-prefix before (names os) o.text o.how o.is_file prefix,
      resolutions-at 0 [] (names os) os i o there,
    )

get-middle : (earlier later : List Occurrence) (o : Occurrence)
    → slice_get (earlier ++ o ∷ later) (length earlier) ≡ Some o
get-middle [] later o = refl
get-middle (x ∷ earlier) later o = get-middle earlier later o

pub names_decide_resolutions : NamesDecideResolutions
names_decide_resolutions earlier later o =
    let os = earlier ++ o ∷ later in
    cc (
      resolutions-at 0 [] (names os) os (length earlier) o (get-middle earlier later o),
      take-append_seam earlier (o ∷ later),
    )

pub earlier_names_decide : EarlierNamesDecide
earlier_names_decide earlier later o n prefix only = grind (arith, names_decide_resolutions, among-prefix)

pub any-grows : (p : List ℕ → Bool) (old new : List Name) → Grows old new
    → list_any p (spellings old) ≡ true → list_any p (spellings new) ≡ true
any-grows p old new g h = grind (arith, map-append, list_any-append p (spellings old) (spellings g.more))

with_name-has : (i : ℕ) (ns : List Name) (text : List ℕ) (how : How) (is_file : Bool) → how ≡ Full →
    let o : Occurrence = record { text = text; how = how; is_file = is_file } in
    list_any (bytes_eq text) (spellings (with_occurrence_name i ns o)) ≡ true
with_name-has i ns text Full is_file h = with_text-has i ns text
with_name-has i ns text Prefix is_file h = cc

-- The bytes of each full occurrence are a name.
names-has : (i : ℕ) (ns : List Name) (os : List Occurrence) (k : ℕ) (o : Occurrence)
    → slice_get os k ≡ Some o → o.how ≡ Full → list_any (bytes_eq o.text) (spellings (names_from i ns os)) ≡ true
names-has i ns [] k o h full = cc
names-has i ns (x ∷ os) zero o h full =
    grind (
      arith,
      with_name-has i ns o.text o.how o.is_file full,
      any-grows (bytes_eq o.text) (with_occurrence_name i ns x)
          (names_from (i + 1) (with_occurrence_name i ns x) os)
          (names_from-grows (i + 1) (with_occurrence_name i ns x) os),
      names_from-grows (i +
          1) (with_occurrence_name i ns x) os,
    )
names-has i ns (x ∷ os) (suc k) o h full = names-has (i + 1) (with_occurrence_name i ns x) os k o h full

text_at-position : (text : List ℕ) (ns : List Name) → list_any (bytes_eq text) (spellings ns) ≡ true
    → option_map (λ (n : Name). n.text) (slice_get ns (position_or_len (bytes_eq text) (spellings ns))) ≡ Some text
text_at-position text [] h = cc
text_at-position text (n ∷ ns) h = grind (arith, bytes_eq-Decides text n.text, text_at-position text ns)

pub full_names_resolve_to_themselves : FullNamesResolveToThemselves
full_names_resolve_to_themselves os i o there full =
    cc (
      resolutions-at 0 [] (names os) os i o there,
      among-full (names_from 0 [] (take i os)) (names os) o.text o.how o.is_file full,
      text_at-position o.text (names os) (names-has 0 [] os i o there full),
    )

joined-append : (test : PartKind → Bool) (ps qs : List Part)
    → joined_where test (ps ++ qs) ≡ joined_where test ps ++ joined_where test qs
joined-append test [] qs = refl
joined-append test (p ∷ ps) qs = grind (arith, append_assoc, joined-append test ps qs)

pub joining_concatenates : JoiningConcatenates
joining_concatenates = grind (arith, append-nil, joined-append)

occurrences-from : (c : Contents) (calls : List Call)
    → (fold after_call c calls).occurrences ≡ c.occurrences ++ filter_map occurrence_of_call calls
occurrences-from c [] = sym (append-nil c.occurrences)
occurrences-from c (Occurs o ∷ calls) = grind (arith, append_assoc, occurrences-from (after_call c (Occurs o)) calls)
occurrences-from c (call ∷ calls) = occurrences-from (after_call c call) calls

pub occurrences_are_those_of_calls : OccurrencesAreThoseOfCalls
occurrences_are_those_of_calls calls = occurrences-from empty calls
