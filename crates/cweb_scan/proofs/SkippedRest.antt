-- The rest of a line: all of it, and the bytes before the next `@`.
use Rattle.cweb_scan.proofs.Common.{arith, ◌≡◌, ℕ, ◌+◌, Bool, true, false, ◌==◌, not, List, [], ◌∷◌, refl, if◌then◌else◌, prefix_len, starts_section, match_in, Skipped, rule_match, IsLine, opens_in, Context, Limbo, TeX, Definition, Macro, CText, is_head, is_skipped, TakesPrefix, ScanState}
use Rattle.cweb_scan.proofs.Ends.{none_to_come}
use Rattle.cweb_scan.proofs.FirstMatchTaken.{between}
use Rattle.cweb_scan.proofs.InLineItemSteps.{closed_at}
use Rattle.cweb_scan.proofs.RestByLexemes.{takes_none, takes_both}
use Rattle.cweb_rules.proofs.TokensStay.{no_section}
use Rattle.cweb_rules.proofs.PlainSpans.{turned}

abbrev pub is_text : Context → Bool
is_text c = elim c [ Limbo ↦ true | TeX ↦ true | Definition begun ↦ false | Macro ↦ false | CText ↦ false ]

skipped_prefix : (c : Context) (includes : Bool) (b : ℕ) (t : List ℕ) → is_text c ≡ true
    → starts_section (b ∷ t) ≡ false → (64 == b) ≡ false → match_in c includes (b ∷ t) ≡ rule_match Skipped 1
skipped_prefix Limbo includes b t c s h = rw (s, h)
skipped_prefix TeX includes b t c s h = rw (s, h)
skipped_prefix _ includes b t c s h = cc

skipped_opens : (c : Context) (b : ℕ) (t : List ℕ) → is_text c ≡ true
    → starts_section (b ∷ t) ≡ false → (64 == b) ≡ false → opens_in c (b ∷ t) ≡ false
skipped_opens Limbo b t c s h = rw (s, h)
skipped_opens TeX b t c s h = rw (s, h)
skipped_opens _ b t c s h = cc

no_head : (c : Context) → is_text c ≡ true → is_head c ≡ false
no_head (Definition begun) h = cc
no_head _ h = refl

one_skipped : (s : ScanState) (g : Bool) (b : ℕ) (t : List ℕ) → is_text s.context ≡ true → IsLine (b ∷ t)
    → (b == 64) ≡ false → (64 == b) ≡ false → TakesPrefix 1 (b ∷ t) (between s g) (between s g)
one_skipped s g b t c line h k =
    grind (arith, no_section, closed_at, no_head, skipped_prefix, skipped_opens, none_to_come)

-- The bytes before the first `@` are skipped.
pub skipped_takes : (s : ScanState) (g : Bool) (u : List ℕ) → is_text s.context ≡ true
    → IsLine u → TakesPrefix (prefix_len is_skipped u) u (between s g) (between s g)
skipped_takes s g [] c line = takes_none [] (between s g)
skipped_takes s g (b ∷ t) c line = (elim (b == 64) as (λ v. (b == 64) ≡ v
    → TakesPrefix (if not v then 1 + prefix_len is_skipped t else 0) (b ∷ t) (between s g) (between s g)) [
      | true ↦ λ h. takes_none (b ∷ t) (between s g)
      | false ↦ λ h. takes_both 1 (prefix_len is_skipped t)
          (b ∷ t) _ _ _ (one_skipped s g b t c line h (turned 64 b h)) (skipped_takes s g t c line.1)
    ]) refl
