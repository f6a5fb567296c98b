-- The expected plan, from the search results.
use Rattle.cweb_out.proofs.Common.{◌≡◌, ◌<◌, ◌+◌, ℕ, true, false, not, ◌&&◌, List, [], ◌∷◌, ◌++◌, sym, ◌∙◌, ap, length, take, get_or, Option, Some, None, map, Ok, Err, find, list_all, take_more, NameId, Stored, cycle_from, is_good_name, output_name, output_of, start_of, false_from_ne_true, arith}
use Rattle.std.specs.Prelude.{option_map}
use Rattle.std.specs.List.{after_last}
use Rattle.std.specs.Str.{IsUtf8, is_utf8}
use Rattle.std.proofs.lemmas.Str.{IsUtf8-from_is_utf8, is_utf8-from_IsUtf8}
use Rattle.std.proofs.lemmas.List.{map-append}
use Rattle.cweb_out.specs.Outputs.{is_control, is_slash, names_no_file}
use Rattle.cweb_out.specs.inner.Planning.{output_in, NamesAll, NamesOne, first_cycle, is_bad, is_endless, is_good_path}
use Rattle.cweb_out.specs.inner.Search.{SettlesList}
use Rattle.cweb_out.specs.declared.outputs.fault.PlanFault.{PlanFault}
use Rattle.cweb_out.specs.declared.outputs.planned.Output.{Output}
use Rattle.cweb_out.specs.declared.outputs.fault.PlanFault.TheVariants as fault
use Rattle.cweb_out.proofs.Finds.{find-at}

-- The first output with a bad name.
pub names-err : (w : Stored) (main : List ℕ) (roots : List (Option NameId))
    (i : ℕ) (root d : Option NameId) (f : PlanFault) → i < length roots → root ≡ get_or roots i d
    → find (is_bad w main) (take i roots) ≡ None → NamesOne w main root (Err f) → NamesAll w main roots (Err f)
names-err w main roots i root d (fault.BadName other) l e h n =
    find-at (is_bad w main) roots i root d l e h n.0 ∙ ap (λ o. Some o) (sym n.1)
names-err w main roots i root d fault.Memory l e h n = tt
names-err w main roots i root d _ l e h n = absurd n

-- One more output.
pub names-more : (w : Stored) (main : List ℕ) (roots : List (Option NameId)) (old new : List Output)
    (i : ℕ) (root d : Option NameId) (output : Output) → i < length roots → root ≡ get_or roots i d
    → NamesOne w main root (Ok output) → map output_in old ≡ map (output_of w main) (take i roots)
    → new ≡ old ++ output ∷ [] → map output_in new ≡ map (output_of w main) (take (i + 1) roots)
names-more w main roots old new i root d output l e n h p =
    ap (map output_in) p ∙ map-append output_in old (output ∷ []) ∙ ap (λ os. os ++ output_in output ∷ []) h
    ∙ ap (λ o. map (output_of w main) (take i roots) ++ o ∷ []) (n.1 ∙ ap (output_of w main) e)
    ∙ sym (ap (map (output_of w main)) (take_more roots i d l)
    ∙ map-append (output_of w main) (take i roots) (get_or roots i d ∷ []))

-- The cycle of the first output whose expansion doesn't end.
pub cycle-found : (w : Stored) (roots : List (Option NameId)) (i : ℕ) (root d : Option NameId) (names : List NameId)
    → i < length roots → root ≡ get_or roots i d → find (is_endless w) (take i roots) ≡ None
    → SettlesList w root (Some names) → first_cycle w roots ≡ Some names
cycle-found w roots i root d names l e h s =
    ap (option_map (λ o. cycle_from w (start_of w o))) (find-at (is_endless w) roots i root d l e h (ap not s.0))
    ∙ ap (λ ns. Some ns) (sym s.1)

pub bad-utf8 : (w : Stored) (main : List ℕ) (root : Option NameId) (bytes : List ℕ)
    → bytes ≡ output_name w main root → (IsUtf8 bytes → ⊥) → is_bad w main root ≡ true
bad-utf8 w main root bytes e n = ap (λ b. not (is_good_name b)) (sym e)
    ∙ ap (λ b. not ((b && list_all (λ x. not (is_control x)) bytes) && not (names_no_file (after_last is_slash bytes))))
    (false_from_ne_true (is_utf8 bytes) (λ h. n (IsUtf8-from_is_utf8 bytes h)))

pub good-name : (w : Stored) (main : List ℕ) (root : Option NameId) (bytes : List ℕ)
    → bytes ≡ output_name w main root → IsUtf8 bytes → is_good_path bytes ≡ true → is_bad w main root ≡ false
good-name w main root bytes e u g = grind (arith, is_utf8-from_IsUtf8)
