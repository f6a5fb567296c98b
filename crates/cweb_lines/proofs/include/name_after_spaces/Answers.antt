use Rattle.cweb_lines.proofs.Common.{◌≡◌, ◌∙◌, ◌+◌, ℕ, suc, Bool, true, false, List, [], ◌∷◌, refl, sym, ap, arith, cond, take, common_steps, until_name_end}
use Rattle.std.specs.Prelude.{not, if◌then◌else◌}
use Rattle.std.specs.List.{before_first, position_or_len}
use Rattle.cweb_lines.specs.Include.{ends_name}
use Rattle.cweb_lines.proofs.include.name_after_spaces.Goals as goal

-- A name is what comes before the first byte that ends it.
name_ends : (quoted : Bool) (bs : List ℕ) → before_first (ends_name quoted) bs ≡ until_name_end quoted bs
name_ends quoted [] = refl
name_ends quoted (b ∷ bs) =
    let n = position_or_len (ends_name quoted) bs in
    let next : suc n ≡ 1 + n = omega arith in
    elim (ends_name quoted b) as (λ v. take (cond (not v) (1 + n) 0) (b ∷ bs)
    ≡ (if v then [] else b ∷ until_name_end quoted bs)) [
      | true ↦ refl
      | false ↦ ap (λ k. take k (b ∷ bs)) (sym next) ∙ ap (λ (t : List ℕ). b ∷ t) (name_ends quoted bs)
    ]

pub returns-then-bytes-i-eq34 : goal.returns-then-bytes-i-eq34
returns-then-bytes-i-eq34 c = grind (arith, common_steps, name_ends true)

pub returns-then-not-is_space : goal.returns-then-not-is_space
returns-then-not-is_space c = grind (arith, common_steps, name_ends false)
