-- The parsed command lines, from option words and file words.
use Rattle.cweb_tools.proofs.Common.{Usage, ◌≡◌, List, ℕ, Option, None, Some, Bor, false, refl, sym, ◌∙◌, ap, arith, option_copied, is_some, option_and_then, option_map, slice_get, OptionsModel, named_by, names_by, options_by, other_words, shown_by_default, words_shown, Shown, ◌<◌, ◌≤◌, [], ◌∷◌, length, map, web_names_by, Stop, Err, WebNames, options_of}
use Rattle.cweb_tools.proofs.Stems.{names_at}
use Rattle.cweb_tools.specs.CommandLine.{main_by, merge_by, with_shown}
use Rattle.cweb_tools.specs.surface.Options.{Parses}

abbrev by_shown : List (List ℕ) → Option Shown → Option OptionsModel
by_shown words shown =
    option_and_then (λ (shown : Shown). option_map (with_shown shown) (names_by (other_words words))) shown

pub asks : (words : List (List ℕ)) (shown : Shown) (web : List ℕ) (change out : Option (List ℕ))
    → words_shown words shown_by_default ≡ Some shown
    → slice_get (other_words words) 0 ≡ Some web → change ≡ slice_get (other_words words) 1
    → out ≡ slice_get (other_words words) 2
    → slice_get (other_words words) 3 ≡ None
    → options_by words ≡ option_map (with_shown shown) (named_by web change out)
asks words shown web change out some first second third few = ap (by_shown words) some
    ∙ ap (option_map (with_shown shown)) (names_at (other_words words) web first few
    ∙ ap (λ c. named_by web c (slice_get (other_words words) 2)) (sym second)
    ∙ ap (λ o. named_by web change o) (sym third))

pub copied_none : (word : Option (Bor (List ℕ))) → is_some word ≡ false → option_copied word ≡ None
copied_none None none = refl
copied_none (Some x) none = absurd (grind (arith, none))

pub no_words : (words : List (Bor (List ℕ))) → length words < 1
    → web_names_by (map (λ (word : Bor (List ℕ)). word.now) words) ≡ None
no_words [] few = refl
no_words (word ∷ words) few = absurd (omega (arith, few))

pub too_many_words : (words : List (Bor (List ℕ))) → 3 ≤ length words
    → web_names_by (map (λ (word : Bor (List ℕ)). word.now) words) ≡ None
too_many_words [] many = refl
too_many_words (web ∷ []) many = absurd (omega (arith, many))
too_many_words (web ∷ change ∷ []) many = absurd (omega (arith, many))
too_many_words (web ∷ change ∷ other ∷ words) many = refl

-- The names of a merge can't be made from words.
pub merge_fails : {A : Type 0} (names : A → WebNames) (stop : Stop) (shown : Shown) (web : List ℕ)
    (change out : Option (List ℕ)) → (main_by web out ≡ None → ⊥) → Parses (merge_by web change) names (Err stop)
    → Parses (option_map (with_shown shown) (named_by web change out)) options_of (Err stop)
merge_fails names stop shown web change out some parses = by (main_by web out) (merge_by web change) some parses
  where
    by : (main : Option (List ℕ)) (merge : Option WebNames) → (main ≡ None → ⊥) → Parses merge names (Err stop)
        → Parses (option_map (with_shown shown) (option_and_then (λ (main : List ℕ). option_map
        (λ (merge : WebNames). record { merge = merge; main = main }) merge) main)) options_of (Err stop)
    by None merge some parses = absurd (some refl)
    by (Some main) None some parses = record {
      ok = tt;
      usage = (λ is. refl, λ none. let same = parses.usage.1 refl in cc);
      stops = parses.stops;
    }
    by (Some main) (Some merge) some parses = record {
      ok = tt;
      usage = (
        λ is. let same : stop ≡ Usage = cc in let none = parses.usage.0 (ap Err same) in absurd (cc),
        λ none. absurd (cc),
      );
      stops = parses.stops;
    }
