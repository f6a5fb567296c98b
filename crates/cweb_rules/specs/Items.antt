-- Delimited items, split into units: control texts, names, comments and literals.
use Rattle.std.specs.Prelude.{ℕ, ◌+◌, ◌-◌, List, [], ◌∷◌, suc, zero, take, length, Bool, ◌||◌, ◌==◌, drop, codes}
use Rattle.std.specs.Prelude.{if◌then◌else◌, bytes_eq}
use Rattle.std.specs.List.{flat_map, prefix_len}
pub use Rattle.cweb_rules.specs.declared.end.End.{End}
use Rattle.cweb_rules.specs.declared.look.Look.{Look}
use Rattle.cweb_rules.specs.declared.look.Look.TheVariants.{Goes, Ends}
use Rattle.cweb_rules.specs.Bytes.{begins, starts_section, at_line_end, is_gap}
pub use Rattle.cweb_rules.specs.declared.end.End.TheVariants.{Closed, Cut, Nested, Open}

-- The units of an item, the size of its closer, and how it ended.
pub record Reach : Type 0 where
  pub units : List (List ℕ)
  pub close : ℕ
  pub how : End

-- Prepends a unit.
abbrev pub with_unit : List ℕ → Reach → Reach
with_unit u r = record { units = u ∷ r.units; close = r.close; how = r.how }

-- The first `inner` bytes still belong to the previous unit.
abbrev pub reach_in : (List ℕ → Look) → End → ℕ → List ℕ → Reach
reach_in look at_end inner [] = record { units = []; close = 0; how = at_end }
reach_in look at_end (suc inner) (b ∷ t) = reach_in look at_end inner t
reach_in look at_end zero (b ∷ t) = elim (look (b ∷ t)) [
  | Goes n ↦ with_unit (take n (b ∷ t)) (reach_in look at_end (n - 1) t)
  | Ends n e ↦ record { units = []; close = n; how = e }
]

-- The units up to the first closer or other end. At the end of the source the item ends as `at_end`.
abbrev pub reach : (List ℕ → Look) → End → List ℕ → Reach
reach look at_end t = reach_in look at_end 0 t

-- The bytes of the units.
abbrev pub body : Reach → List ℕ
body r = flat_map (λ u. u) r.units

-- The size of an item with its closer.
abbrev pub reach_size : Reach → ℕ
reach_size r = length (body r) + r.close

-- The unit `@@` emits `@`. Any other unit emits itself.
abbrev pub unit_bytes : List ℕ → List ℕ
unit_bytes u = if bytes_eq u (codes "@@") then codes "@" else u

-- The bytes that units emit.
abbrev pub unescaped : List (List ℕ) → List ℕ
unescaped units = flat_map unit_bytes units

-- A control text ends at the first `@` that isn't doubled, or at the line end. Only `@>` closes it.
abbrev pub look_in_control : List ℕ → Look
look_in_control t =
    if begins (codes "@>") t then Ends 2 Closed
    else (if begins (codes "@@") t then Goes 2
    else (if begins (codes "@") t || at_line_end t then Ends 0 Cut
    else Goes 1))

-- `@>` closes a name. `@<`, `@(` and a section start end it before their `@`. Another `@` and its next byte are a unit.
abbrev pub look_in_name : List ℕ → Look
look_in_name t =
    if begins (codes "@>") t then Ends 2 Closed
    else (if begins (codes "@<") t || begins (codes "@(") t then Ends 0 Nested
    else (if starts_section t then Ends 0 Cut
    else (if begins (codes "@") t then Goes 2 else Goes 1)))

-- The length of an opener of a part: spaces and tabs, then `=` or `+=` without a further `=`. It is 0 if there is none.
abbrev pub opener_len : List ℕ → ℕ
opener_len t =
    let gap = prefix_len is_gap t in
    let u = drop gap t in
    let size : ℕ = (if begins (codes "=") u then 1 else (if begins (codes "+=") u then 2 else 0)) in
    if (size == 0) || begins (codes "=") (drop size u) then 0 else gap + size

-- A closer or a section start ends a comment. Another `@` and its next byte are a unit.
abbrev pub look_in_comment : (List ℕ → Bool) → ℕ → List ℕ → Look
look_in_comment closes size t =
    if closes t then Ends size Closed
    else (if starts_section t then Ends 0 Cut
    else (if begins (codes "@") t then Goes 2 else Goes 1))

-- The comment after `/*`.
abbrev pub reach_of_comment : List ℕ → Reach
reach_of_comment t = reach (look_in_comment (begins (codes "*/")) 2) Cut t

-- The comment after `//`, which the line end closes.
abbrev pub reach_of_line_comment : List ℕ → Reach
reach_of_line_comment t = reach (look_in_comment at_line_end 0) Closed t

-- The quote closes a literal, a line end cuts it. `@@` is a unit, and so are `\` and its next byte unless that is `@`.
abbrev pub look_in_literal : ℕ → List ℕ → Look
look_in_literal quote t =
    if begins (quote ∷ []) t then Ends 1 Closed
    else (if at_line_end t then Ends 0 Cut
    else (if begins (codes "\\@") t then Goes 1
    else (if begins (codes "\\") t || begins (codes "@@") t then Goes 2 else Goes 1)))

-- `>` closes an included name, and a line end cuts it. `@@` is a unit.
abbrev pub look_in_include : List ℕ → Look
look_in_include t =
    if begins (codes ">") t then Ends 1 Closed
    else (if at_line_end t then Ends 0 Cut
    else (if begins (codes "@@") t then Goes 2 else Goes 1))

-- Its closer or a section start ends a raw literal. `@@` is a unit.
abbrev pub look_in_raw : List ℕ → List ℕ → Look
look_in_raw closer t =
    if begins closer t then Ends (length closer) Closed
    else (if starts_section t then Ends 0 Cut
    else (if begins (codes "@@") t then Goes 2 else Goes 1))
