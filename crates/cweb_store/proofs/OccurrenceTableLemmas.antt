-- The contents of a table of occurrences, and what they resolve to.
use Rattle.cweb_store.proofs.Common.{◌≡◌, ℕ, zero, suc, ◌+◌, List, [], ◌∷◌, ◌++◌, map, length, drop, set, refl, sym, ◌∙◌, ap, subst, arith, length-append, append_assoc, slice_get, slice_get-map, slice_get_within, Some, Bool, IfOk, bytes_eq, position_or_len, spellings, How, Full, Prefix, string_at, Occurrence, Name, NamesSoFar, Resolution, names, with_occurrence_name, names_from, resolved_among, resolutions_from, resolutions, early, earlies_from, resolve, resolve_all, occurrence_text}
use Rattle.cweb_store.specs.inner.Known.{numbered, numbered_from}
use Rattle.cweb_store.proofs.NameLemmas.{prefix_at}
use Rattle.cweb_store.proofs.StringListLemmas.{get-string}
use Rattle.cweb_store.proofs.OccurrenceLemmas.{resolve-one}

pub drop-at : {X : Type 0} (xs : List X) (i : ℕ) (x : X) → slice_get xs i ≡ Some x → drop i xs ≡ x ∷ drop (i + 1) xs
drop-at xs i x here = grind (arith, prefix_at xs i (slice_get_within xs i x here))

-- The item after the first ones is replaced.
set-after : {X : Type 0} (xs : List X) (y x : X) (ys : List X) → set (xs ++ y ∷ ys) (length xs) x ≡ xs ++ x ∷ ys
set-after [] y x ys = refl
set-after (z ∷ xs) y x ys = ap (λ zs. z ∷ zs) (set-after xs y x ys)

get-after : {X : Type 0} (xs : List X) (y : X) (ys : List X) → slice_get (xs ++ y ∷ ys) (length xs) ≡ Some y
get-after [] y ys = refl
get-after (z ∷ xs) y ys = get-after xs y ys

pub earlies-count : (i : ℕ) (ns : List Name) (os : List Occurrence) → length (earlies_from i ns os) ≡ length os
earlies-count i ns [] = refl
earlies-count i ns (o ∷ os) = omega (arith, earlies-count (i + 1) (with_occurrence_name i ns o) os)

pub numbered-count : (i : ℕ) (ns : List Name) (os : List Occurrence) → length (numbered_from i ns os) ≡ length os
numbered-count i ns [] = refl
numbered-count i ns (o ∷ os) = omega (arith, numbered-count (i + 1) (with_occurrence_name i ns o) os)

resolve-from : (i : ℕ) (before : List Name) (os : List Occurrence) (es : List Resolution) (all : List Name)
    → all ≡ names_from i before os → es ≡ earlies_from i before os
    → resolve_all all (map occurrence_text os) es ≡ resolutions_from i before all os
resolve-from i before [] es all is found = refl
resolve-from i before (o ∷ os) es all is found =
    let next = with_occurrence_name i before o in
    let one : resolve all o.text (early before o) ≡ resolved_among before all o = subst (λ (ns : List Name).
    resolve ns o.text (early before o) ≡ resolved_among before ns o) (sym is)
    (resolve-one i before os o.text o.how o.is_file) in
    ap (resolve_all all (map occurrence_text (o ∷ os))) found
    ∙ (λ j. one j ∷ resolve-from (i + 1) next os (earlies_from (i + 1) next os) all is refl j)

-- What occurrences resolve to among the names up to each one, else among all names, is what they resolve to.
pub resolve-resolutions : (os : List Occurrence) (es : List Resolution) → es ≡ earlies_from 0 [] os
    → resolve_all (names os) (map occurrence_text os) es ≡ resolutions os
resolve-resolutions os es found = resolve-from 0 [] os es (names os) refl found

pub resolve-count : (known : List Name) (ts : List (List ℕ)) (es : List Resolution)
    → length ts ≡ length es → length (resolve_all known ts es) ≡ length es
resolve-count known [] [] e = refl
resolve-count known [] (r ∷ es) e = absurd (let none : ⊥ = omega arith in none)
resolve-count known (t ∷ ts) [] e = absurd (let none : ⊥ = omega arith in none)
resolve-count known (t ∷ ts) (r ∷ es) e = omega (arith, resolve-count known ts es (omega arith))

-- The names and the resolutions up to an occurrence. The others are only numbered.
pub record AreTaken (os : List Occurrence) (i : ℕ) (known : NamesSoFar) (all : List Resolution) : Type 0 where
  pub done : List Resolution
  pub count : length done ≡ i
  pub splits : all ≡ done ++ numbered_from i known.names (drop i os)
  pub found : done ++ earlies_from i known.names (drop i os) ≡ earlies_from 0 [] os
  pub names : names_from i known.names (drop i os) ≡ names os
  pub strings : known.strings ≡ map occurrence_text os

pub taken-at : (os : List Occurrence) (i : ℕ) (known : NamesSoFar) (all : List Resolution) (o : Occurrence)
    → AreTaken os i known all → slice_get os i ≡ Some o → slice_get all i ≡ Some (numbered known.names o)
taken-at os i known all o taken there =
    let rest = numbered_from (i + 1) (with_occurrence_name i known.names o) (drop (i + 1) os) in
    ap (λ rs. slice_get rs i) (taken.splits
    ∙ ap (λ us. taken.done ++ numbered_from i known.names us) (drop-at os i o there))
    ∙ ap (slice_get (taken.done ++ numbered known.names o ∷ rest)) (sym taken.count)
    ∙ get-after taken.done (numbered known.names o) rest

pub taken-next : (os : List Occurrence) (i : ℕ) (known next : NamesSoFar) (all : List Resolution) (o : Occurrence)
    (x : Resolution) → slice_get os i ≡ Some o → AreTaken os i known all → next.strings ≡ known.strings
    → next.names ≡ with_occurrence_name i known.names o → x ≡ early known.names o
    → AreTaken os (i + 1) next (set all i x)
taken-next os i known next all o x there taken same grown is =
    let rest = drop (i + 1) os in
    let here : drop i os ≡ o ∷ rest = drop-at os i o there in
    let after = with_occurrence_name i known.names o in
    let old = taken.done ++ numbered known.names o ∷ numbered_from (i + 1) after rest in
    record {
      done = taken.done ++ x ∷ [];
      count = omega (arith, length-append taken.done (x ∷ []), taken.count);
      splits = ap (λ rs. set rs i x) (taken.splits ∙ ap (λ us. taken.done ++ numbered_from i known.names us) here)
          ∙ ap (λ k. set old k x) (sym taken.count)
          ∙ set-after taken.done (numbered known.names o) x (numbered_from (i + 1) after rest)
          ∙ ap (λ (ns : List Name). taken.done ++ x ∷ numbered_from (i + 1) ns rest) (sym grown)
          ∙ sym (append_assoc taken.done (x ∷ []) (numbered_from (i + 1) next.names rest));
      found = append_assoc taken.done (x ∷ []) (earlies_from (i + 1) next.names rest)
          ∙ (λ j. taken.done ++ is j ∷ earlies_from (i + 1) (grown j) rest)
          ∙ ap (λ us. taken.done ++ earlies_from i known.names us) (sym here) ∙ taken.found;
      names = ap (λ (ns : List Name). names_from (i + 1) ns rest) grown
          ∙ ap (names_from i known.names) (sym here) ∙ taken.names;
      strings = same ∙ taken.strings;
    }

-- The first resolutions are among all names.
pub record AreResolved (ns : List Name) (ts : List (List ℕ)) (old : List Resolution) (i : ℕ) (now : List Resolution)
    : Type 0 where
  pub done : List Resolution
  pub count : length done ≡ i
  pub splits : now ≡ done ++ drop i old
  pub found : done ++ resolve_all ns (drop i ts) (drop i old) ≡ resolve_all ns ts old

pub resolved-get : (ns : List Name) (ts : List (List ℕ)) (old : List Resolution) (i : ℕ) (now : List Resolution)
    (e : Resolution) → AreResolved ns ts old i now → slice_get old i ≡ Some e → slice_get now i ≡ Some e
resolved-get ns ts old i now e all there =
    ap (λ rs. slice_get rs i) (all.splits ∙ ap (λ rs. all.done ++ rs) (drop-at old i e there))
    ∙ ap (slice_get (all.done ++ e ∷ drop (i + 1) old)) (sym all.count) ∙ get-after all.done e (drop (i + 1) old)

pub resolved-next : (ns : List Name) (ts : List (List ℕ)) (old : List Resolution) (i : ℕ) (now : List Resolution)
    (t : List ℕ) (e x : Resolution) → AreResolved ns ts old i now → slice_get ts i ≡ Some t
    → slice_get old i ≡ Some e → x ≡ resolve ns t e → AreResolved ns ts old (i + 1) (set now i x)
resolved-next ns ts old i now t e x all text there is =
    let rest = drop (i + 1) old in
    record {
      done = all.done ++ x ∷ [];
      count = omega (arith, length-append all.done (x ∷ []), all.count);
      splits = ap (λ rs. set rs i x) (all.splits ∙ ap (λ rs. all.done ++ rs) (drop-at old i e there))
          ∙ ap (λ k. set (all.done ++ e ∷ rest) k x) (sym all.count) ∙ set-after all.done e x rest
          ∙ sym (append_assoc all.done (x ∷ []) rest);
      found = append_assoc all.done (x ∷ []) (resolve_all ns (drop (i + 1) ts) rest)
          ∙ ap (λ y. all.done ++ y ∷ resolve_all ns (drop (i + 1) ts) rest) is
          ∙ (λ j. all.done ++ resolve_all ns (sym (drop-at ts i t text) j) (sym (drop-at old i e there) j))
          ∙ all.found;
    }

set-same : (rs : List Resolution) (i : ℕ) (r : Resolution) → slice_get rs i ≡ Some r → set rs i r ≡ rs
set-same [] zero r there = refl
set-same [] (suc i) r there = refl
set-same (s ∷ rs) zero r there = let same : s ≡ r = cc in ap (λ (x : Resolution). x ∷ rs) (sym same)
set-same (s ∷ rs) (suc i) r there = ap (λ us. s ∷ us) (set-same rs i r there)

pub resolved-stays : (ns : List Name) (ts : List (List ℕ)) (old : List Resolution) (i : ℕ) (now : List Resolution)
    (t : List ℕ) (e : Resolution) → AreResolved ns ts old i now → slice_get ts i ≡ Some t
    → slice_get old i ≡ Some e → resolve ns t e ≡ e → AreResolved ns ts old (i + 1) now
resolved-stays ns ts old i now t e all text there same =
    subst (AreResolved ns ts old (i + 1)) (set-same now i e (resolved-get ns ts old i now e all there))
    (resolved-next ns ts old i now t e e all text there (sym same))

-- The text of an occurrence, and the place of a numbered one.
pub text-is : (os : List Occurrence) (i : ℕ) (o : Occurrence) (strings : List (List ℕ))
    → strings ≡ map occurrence_text os → slice_get os i ≡ Some o → o.text ≡ string_at strings i
text-is os i o strings are there =
    grind (arith, are, there, slice_get-map, get-string (map occurrence_text os) i o.text)

place-by : (ns : List Name) (text : List ℕ) (how : How) (is_file : Bool)
    → IfOk (numbered ns (record { text = text; how = how; is_file = is_file }))
    (λ id. id.0 ≡ position_or_len (bytes_eq text) (spellings ns))
place-by ns text Full is_file = refl
place-by ns text Prefix is_file = tt

pub numbered-place : (ns : List Name) (o : Occurrence) (text : List ℕ) (r : Resolution) → o.text ≡ text
    → r ≡ numbered ns o → IfOk r (λ id. id.0 ≡ position_or_len (bytes_eq text) (spellings ns))
numbered-place ns o text r same is =
    subst (λ (t : List ℕ). IfOk r (λ id. id.0 ≡ position_or_len (bytes_eq t) (spellings ns))) same
    (subst (λ (x : Resolution). IfOk x (λ id. id.0 ≡ position_or_len (bytes_eq o.text) (spellings ns))) (sym is)
    (place-by ns o.text o.how o.is_file))
