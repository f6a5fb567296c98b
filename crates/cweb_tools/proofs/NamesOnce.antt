-- Each name once, by a set of the names so far.
use Rattle.std.proofs.Common.{◌≡◌, ◌<◌, ◌+◌, ℕ, List, [], ◌∷◌, ◌++◌, length, get_or, take, sym, ◌∙◌, ap, cond, arith}
use Rattle.std.proofs.Common.{Bool, true, false, not, nat_cmp, BTreeSet}
use Rattle.std.proofs.lemmas.Cmp.{nat_list_eq_equiv}
use Rattle.std.proofs.lemmas.List.{map-append, take_more}
use Rattle.std.proofs.lemmas.List.Folds.{list_any-append}
use Rattle.std.proofs.lemmas.List.Sums.{fold-append}
use Rattle.std.proofs.lemmas.Map.Text.{is_eq-slice_cmp}
use Rattle.std.specs.Bool.{OnFalse}
use Rattle.std.specs.Borrow.{Bor}
use Rattle.std.specs.BTreeSet.{IsUnchanged, Updates, contains}
use Rattle.std.specs.Cmp.Lexicographic.{slice_cmp}
use Rattle.std.specs.List.{list_any}
use Rattle.std.specs.declared.cmp.Ordering.{Ordering}
use Rattle.std.specs.Prelude.{slice_index_or}
use Rattle.std.specs.Str.{bytes_eq}
use Rattle.cweb_tools.specs.Depfile.{add_once, each_once}
use Rattle.cweb_tools.specs.inner.RuleModel.{keys_of}

-- Names are compared by their bytes.
abbrev compare : Bor (List ℕ) → Bor (List ℕ) → Ordering
compare a b = slice_cmp nat_cmp a.now b.now

-- The set and the list contain these names, and no others.
abbrev pub ContainNames : BTreeSet (Bor (List ℕ)) → List (Bor (List ℕ)) → List (List ℕ) → Type 0
ContainNames set list names = record {
  set : (q : Bor (List ℕ)) → contains compare set q ≡ list_any (bytes_eq q.now) names;
  list : keys_of list ≡ names;
}

-- The next of the names is added to those before it.
pub name_added : (names : List (List ℕ)) (at : ℕ) → at < length names
    → add_once (each_once (take at names)) (slice_index_or names at []) ≡ each_once (take (at + 1) names)
name_added names at within = sym (ap each_once (take_more names at [] within)
    ∙ fold-append add_once [] (take at names) (get_or names at [] ∷ []))

among_more : (names : List (List ℕ)) (name q : List ℕ) → cond (bytes_eq name q) true (list_any (bytes_eq q) names)
    ≡ list_any (bytes_eq q) (names ++ name ∷ [])
among_more names name q = grind (arith, list_any-append, nat_list_eq_equiv.symm q name)

module _ (set new : BTreeSet (Bor (List ℕ))) (list now : List (Bor (List ℕ))) (name : Bor (List ℕ))
    (names all : List (List ℕ)) (added : Bool) (before : ContainNames set list names)
    (lacks : added ≡ not (contains compare set name)) (next : add_once names name.now ≡ all) where
  is_added : added ≡ not (list_any (bytes_eq name.now) names)
  is_added = lacks ∙ ap not (before.set name)

  -- A name that the set lacks is pushed.
  pub pushes_new : added ≡ true → Updates compare set new name true → now ≡ list ++ name ∷ []
      → ContainNames new now all
  pushes_new is updates pushed = grind (arith, is_eq-slice_cmp, is_added, among_more, map-append)

  -- A name that the set has is skipped.
  pub skips_known : added ≡ false → OnFalse added (IsUnchanged set new) → now ≡ list → ContainNames new now all
  skips_known is unchanged same = grind (arith, is_added)
