-- What a search under two names finds.
use Rattle.cweb_lines.proofs.Common.{◌≡◌, ◌++◌, ◌∷◌, ℕ, option_map, Bool, true, false, List, Option, Some, None, Err, refl, arith}
use Rattle.std.specs.Prelude.{Result, Ok, IfOk, OnOk, if◌then◌else◌, option_and_then}
use Rattle.std.specs.Str.{IsUtf8, is_utf8}
use Rattle.std.proofs.lemmas.Str.{IsUtf8-from_is_utf8, is_utf8-from_IsUtf8}
use Rattle.std.specs.Option.{option_or}
use Rattle.cweb_lines.specs.Include.{World, Found, found_under, in_folder, found_at}

abbrev found_when : Bool → World → List ℕ → Option Found
found_when b world name = if b then option_or (found_under world.texts name) (in_folder world name) else None

pub found_nothing : (world : World) (name : List ℕ) → (IsUtf8 name → ⊥) → None ≡ found_at world name
found_nothing world name not = by (is_utf8 name) refl
  where
    by : (b : Bool) → is_utf8 name ≡ b → None ≡ found_when b world name
    by false is = refl
    by true is = absurd (not (IsUtf8-from_is_utf8 name is))

-- A name that is UTF-8 is looked up as it is, then in the folder.
pub found_either : (texts : List ℕ → Option (List ℕ)) (inputs : Option (List ℕ)) (name bytes first : List ℕ)
    (second : Option (List ℕ)) → IsUtf8 name → bytes ≡ name → first ≡ bytes
    → second ≡ option_map (λ folder. folder ++ 47 ∷ bytes) inputs
    → option_or (found_under texts first) (option_and_then (found_under texts) second)
    ≡ found_at (record { texts = texts; inputs = inputs }) name
found_either texts None name bytes first second text same is longer = grind (arith, is_utf8-from_IsUtf8)
found_either texts (Some folder) name bytes first second text same is longer = grind (arith, is_utf8-from_IsUtf8)

pub IfOk-map : {A E : Type 0} {P Q : A → Type 0} (r : Result A E) → ((x : A) → P x → Q x) → IfOk r P → IfOk r Q
IfOk-map (Ok x) f p = f x p
IfOk-map (Err e) f p = p

pub OnOk-map : {A E P Q : Type 0} (r : Result A E) → (P → Q) → OnOk r P → OnOk r Q
OnOk-map (Ok x) f p = f p
OnOk-map (Err e) f p = p
