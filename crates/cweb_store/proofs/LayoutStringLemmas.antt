-- The strings of tokens without trailing layout.
use Rattle.cweb_store.proofs.Common.{arith, ◌≡◌, ℕ, suc, true, false, List, [], ◌∷◌, ◌++◌, Some, take, drop, refl, sym, ◌∙◌, ap, append-nil, slice_get, filter, if◌then◌else◌, take-append-drop, Token, before_last, without_last, without_last_after, is_blank, filter-append, is_trailing, has_string}
use Rattle.cweb_store.specs.declared.tokens.layout.Trailing.{Trailing}
use Rattle.cweb_store.specs.Parts as spec
use Rattle.cweb_store.specs.declared.tokens.layout.Trailing.TheVariants as trailing
use Rattle.cweb_store.proofs.LayoutLemmas.{take-next}

-- Dropped tokens have no string.
dropped-none : (t : Trailing) (token : Token) → is_trailing t token ≡ true → has_string token ≡ false
dropped-none trailing.Layout (spec.Word b) h = cc
dropped-none trailing.Layout _ h = cc
dropped-none trailing.Newlines (spec.Word b) h = cc
dropped-none trailing.Newlines _ h = cc

gone : (token : Token) (ts : List Token) → has_string token ≡ false
    → filter has_string (token ∷ ts) ≡ filter has_string ts
gone token ts h = ap (λ b. if b then token ∷ filter has_string ts else filter has_string ts) h

before_last-strings : (t : Trailing) (token : Token) (ts : List Token)
    → filter has_string (before_last (is_trailing t) token ts) ≡ filter has_string (token ∷ ts)
before_last-strings t token [] = grind (arith, gone token, dropped-none t token)
before_last-strings t token (u ∷ us) = refl

without_last-strings : (t : Trailing) (ts : List Token)
    → filter has_string (without_last (is_trailing t) ts) ≡ filter has_string ts
without_last-strings t [] = refl
without_last-strings t (x ∷ ts) = grind (arith, before_last-strings, without_last-strings t ts)

pub trimmed-strings : (n : ℕ) (t : Trailing) (ts : List Token)
    → filter has_string (without_last_after n (is_trailing t) ts) ≡ filter has_string ts
trimmed-strings n t ts =
    cc (
      filter-append has_string (take n ts) (without_last (is_trailing t) (drop n ts)),
      without_last-strings t (drop n ts),
      filter-append has_string (take n ts) (drop n ts),
      take-append-drop n ts,
    )

blank-none : (t : Token) → is_blank t ≡ true → has_string t ≡ false
blank-none (spec.Word b) h = cc
blank-none _ h = cc

pub blank-strings : (ts : List Token) (k : ℕ) (t : Token) → slice_get ts k ≡ Some t
    → is_blank t ≡ true → filter has_string (take k ts) ≡ filter has_string (take (suc k) ts)
blank-strings ts k t h blank =
    sym (ap (filter has_string) (take-next ts k t h) ∙ filter-append has_string (take k ts) (t ∷ []) ∙ ap (λ us.
    filter has_string (take k ts) ++ us) (gone t [] (blank-none t blank)) ∙ append-nil (filter has_string (take k ts)))
