-- The text of a rule so far, and what `wdep` says of itself.
use Rattle.std.specs.Prelude.{ℕ, List, [], ◌∷◌, codes, map, if◌then◌else◌, Option, None, Some}
use Rattle.std.specs.Borrow.{Bor}
use Rattle.cweb_tools.specs.Depend.{among_outputs}
use Rattle.cweb_tools.specs.Depfile.{Wrapped, depfile, each_once, has_equals}
use Rattle.cweb_tools.specs.Script.{Planning, planned, refused}
use Rattle.cweb_tools.specs.declared.rule_targets.Targets.{Targets}
use Rattle.cweb_tools.specs.declared.depfile.RuleText.{RuleText}
use Rattle.std.specs.Str.{bytes_eq}
use Rattle.cweb_tools.specs.declared.about.TheConstants.{VERSION, HELP}

-- The bytes of borrowed names.
abbrev pub keys_of : List (Bor (List ℕ)) → List (List ℕ)
keys_of names = map (λ name. name.now) names

-- The text without the next word.
abbrev pub wrapped : RuleText → Wrapped
wrapped rule = record { text = rule.text.items; column = rule.column }

-- What comes before the inputs in a rule.
abbrev pub lead_words : List (List ℕ) → List (List ℕ)
lead_words [] = []
lead_words (name ∷ names) = if has_equals name then codes "/dev/null" ∷ [] else []

-- The text for a plan of a web with these input files. A refused plan has none.
abbrev pub dependencies : Targets → List (List ℕ) → Planning → List ℕ
dependencies targets files (refused text) = []
dependencies targets files (planned outputs missing) =
    depfile (map (λ output. output.name) (among_outputs targets outputs)) (each_once files)

-- The text that one argument asks for: that of the version, or of the help. Several arguments ask for none.
abbrev pub about_wdep : List (List ℕ) → Option (List ℕ)
about_wdep (word ∷ []) =
    if bytes_eq word (codes "--version") then Some VERSION.now
    else (if bytes_eq word (codes "--help") then Some HELP.now else None)
about_wdep words = None
