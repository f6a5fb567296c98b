-- The first use in a list and in a frame's suffix.
use Rattle.cweb_out.proofs.Common.{◌≡◌, ◌<◌, ◌||◌, true, false, List, [], ◌∷◌, ◌++◌, length, refl, sym, ◌∙◌, ap, arith, append_assoc, length-append, list_any, list_any-append, flat_map-append, Part, Token, Stored, uses, use_of, suffix, Frame, PassesNoUse}
use Rattle.cweb_store.specs.inner.Records.{is_name_use}
use Rattle.cweb_out.specs.surface.Printed.{tokens_of_part}
use Rattle.cweb_store.specs.Parts as spec

none-append : (ts us : List Token) → list_any is_name_use ts ≡ false
    → list_any is_name_use us ≡ false → list_any is_name_use (ts ++ us) ≡ false
none-append ts us a b = grind (arith, list_any-append)

pub pass-on : {a b c : List Token} → PassesNoUse a b → PassesNoUse b c → PassesNoUse a c
pass-on {c} x y = record {
  before = x.before ++ y.before;
  none = none-append x.before y.before x.none y.none;
  same = x.same ∙ ap (λ ts. x.before ++ ts) y.same ∙ sym (append_assoc x.before y.before c);
}

-- A token that is no use adds no used name.
not-used : (w : Stored) (t : Token) → is_name_use t ≡ false → use_of w t ≡ []
not-used w (spec.Name name) h = cc
not-used w _ h = refl

pub none-used : (w : Stored) (ts : List Token) → list_any is_name_use ts ≡ false → uses w ts ≡ []
none-used w [] h = refl
none-used w (t ∷ ts) h =
    (elim (is_name_use t) as (λ b. is_name_use t ≡ b → (b || list_any is_name_use ts) ≡ false
    → use_of w t ++ uses w ts ≡ []) [
      | true ↦ λ e some. cc
      | false ↦ λ e none. ap (λ ns. ns ++ uses w ts) (not-used w t e) ∙ none-used w ts none
    ]) refl h

pub same-uses : (w : Stored) {old new : List Token} → PassesNoUse old new → uses w old ≡ uses w new
same-uses w {new} x =
    ap (uses w) x.same ∙ flat_map-append (use_of w) x.before new
    ∙ ap (λ ns. ns ++ uses w new) (none-used w x.before x.none)

pub use-shorter : {old : List Token} (new : List Token) (t : Token) → PassesNoUse old (t ∷ new)
    → length new < length old
use-shorter new t x = omega (arith, ap length x.same, length-append x.before (t ∷ new))

-- Skips a part without a use, and a part up to its first use.
pub pass-part : (w : Stored) (f : Frame) (q : Part) (more : List Part) → f.defs ≡ false
    → list_any is_name_use (tokens_of_part w f.part) ≡ false → f.rest ≡ q ∷ more
    → PassesNoUse (suffix w f) (suffix w (record { owner = f.owner; defs = f.defs; part = q; rest = more }))
pass-part w f q more d none e = grind arith

pub pass-to-use : (w : Stored) (f : Frame) (q : Part) (t : Token) → f.defs ≡ false
    → PassesNoUse (tokens_of_part w f.part) (t ∷ tokens_of_part w q)
    → PassesNoUse (suffix w f) (t ∷ suffix w (record { owner = f.owner; defs = f.defs; part = q; rest = f.rest }))
pass-to-use w f q t d x = grind (arith, append_assoc)
