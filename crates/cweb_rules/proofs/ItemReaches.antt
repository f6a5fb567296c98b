-- Delimited items after their openers.
use Rattle.std.specs.Prelude.{ℕ, ◌-◌, List, [], take}
use Rattle.cweb_rules.specs.declared.end.End.{End}
use Rattle.cweb_rules.specs.declared.end.End.TheVariants.{Cut}
use Rattle.cweb_rules.specs.declared.look.Look.{Look}
use Rattle.cweb_rules.specs.declared.look.Look.TheVariants.{Goes, Ends}
use Rattle.cweb_rules.specs.Items.{Reach, reach, look_in_control, look_in_name, look_in_literal, look_in_include}
use Rattle.cweb_rules.specs.Items.{look_in_raw, reach_in, with_unit}

-- The control text after its code.
abbrev pub reach_of_control_text : List ℕ → Reach
reach_of_control_text t = reach look_in_control Cut t

-- The name after `@<` or `@(`.
abbrev pub reach_of_name : List ℕ → Reach
reach_of_name t = reach look_in_name Cut t

-- The literal after its opening quote.
abbrev pub reach_of_literal : ℕ → List ℕ → Reach
reach_of_literal quote t = reach (look_in_literal quote) Cut t

-- The included name after its `<`.
abbrev pub reach_of_included_name : List ℕ → Reach
reach_of_included_name t = reach look_in_include Cut t

-- The raw literal after its `(`.
abbrev pub reach_of_raw_literal : List ℕ → List ℕ → Reach
reach_of_raw_literal closer t = reach (look_in_raw closer) Cut t

-- An item of which the first unit or end is known.
abbrev pub at_start : (List ℕ → Look) → Look → List ℕ → End → List ℕ → Reach
at_start look v u e t =
    elim v [
      | Goes n ↦ with_unit (take n u) (reach_in look e (n - 1) t)
      | Ends n how ↦ record { units = []; close = n; how = how }
    ]
