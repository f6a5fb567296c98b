-- The rule of a literal.
use Rattle.cweb_scan.proofs.Common.{◌≡◌, ℕ, Bool, true, false, List, ◌∷◌, ◌++◌, refl, codes, enter_in, begins, Effect, in_macro, in_c, in_open_part, IsPast, raw_match, literal_match, c_match, starts_raw, starts_literal, End, Quoted, RuleMatch, takes_opener, match_in, Context, Macro, CText, ScanState, AtLineEnd, arith}
use Rattle.cweb_rules.proofs.Seams.{begins_line, starts_section_line}

pub enter_quoted : (c : Context) (us : List (List ℕ)) (how : End) (s : ScanState)
    → in_open_part c ≡ true → enter_in c (Quoted us how) s ≡ s
enter_quoted Macro us how s h = refl
enter_quoted _ us how s h = cc

pub c_prefix_raw : (effect : ℕ → Effect) (takes_opener includes : Bool) (t : List ℕ)
    → IsPast t → starts_raw t ≡ true → c_match effect takes_opener includes t ≡ raw_match t
c_prefix_raw effect takes_opener includes t p h = grind arith

pub c_prefix_literal : (effect : ℕ → Effect) (takes_opener includes : Bool) (t : List ℕ) → IsPast t
    → starts_raw t ≡ false → starts_literal t ≡ true → c_match effect takes_opener includes t ≡ literal_match t
c_prefix_literal effect takes_opener includes t p g h = grind arith

pub past-line : (b : ℕ) (t more : List ℕ) → AtLineEnd more → IsPast (b ∷ t) → IsPast (b ∷ t ++ more)
past-line b t more e p = grind (arith, begins_line, starts_section_line)

pub literal_first : (c : Context) (includes : Bool) (b : ℕ) (t : List ℕ) (f : RuleMatch)
    → in_open_part c ≡ true → begins (codes "\\") (b ∷ t) ≡ false
    → ((effect : ℕ → Effect) (takes_opener includes : Bool) → c_match effect takes_opener includes (b ∷ t) ≡ f)
    → match_in c includes (b ∷ t) ≡ f
literal_first Macro includes b t f h g k = grind (arith, g, k in_macro true false)
literal_first CText includes b t f h g k = k in_c false includes
literal_first _ includes b t f h g k = cc
