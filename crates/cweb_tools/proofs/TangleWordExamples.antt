-- Worked examples: command lines of `ctangle`.
use Rattle.cweb_tools.proofs.Common.{◌≡◌, true, false, List, ℕ, [], ◌∷◌, None, Some, codes, TangleNames, names_by, options_by, words_shown, shown_by_default}

abbrev names : List ℕ → List ℕ → List ℕ → TangleNames
names web second main = record { merge = record { web = web; second = Some second; change = None }; main = main }

record Computed : Type 0 where
  -- ctangle x.y/web
  main_after_the_web : names_by (codes "x.y/web" ∷ [])
      ≡ Some (names (codes "x.y/web.w") (codes "x.y/web.web") (codes "web.c"))
  -- ctangle a - -
  dash_as_main : options_by (codes "a" ∷ codes "-" ∷ codes "-" ∷ []) ≡ None
  -- ctangle -z a
  letter_without_effect : options_by (codes "-z" ∷ codes "a" ∷ []) ≡ options_by (codes "a" ∷ [])
  -- ctangle -b- a
  sign_among_letters : options_by (codes "-b-" ∷ codes "a" ∷ []) ≡ None
  -- ctangle a - out
  main_by_a_word : names_by (codes "a" ∷ codes "-" ∷ codes "out" ∷ [])
      ≡ Some (names (codes "a.w") (codes "a.web") (codes "out.c"))
  -- ctangle a +s -bph
  options_after : options_by (codes "a" ∷ codes "+s" ∷ codes "-bph" ∷ [])
      ≡ Some (record {
        shown = record shown_by_default { banner = false; progress = false; closing = false; statistics = true };
        names = names (codes "a.w") (codes "a.web") (codes "a.c");
      })
  later_letters : words_shown (codes "-b" ∷ codes "x" ∷ codes "+b" ∷ []) shown_by_default ≡ Some shown_by_default

computed : Computed
computed = search
