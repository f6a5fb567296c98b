-- Laws of dropped layout and of the tokens that stay.
use Rattle.cweb_store.proofs.Common.{arith, ◌≡◌, ℕ, zero, Bool, true, false, List, [], ◌∷◌, take, drop, refl, sym, ap, append_assoc, append-nil, if◌then◌else◌, take-append-drop, Token, Newline, Blank, Part, at_close, before_last, is_macro, is_newline, without_blank, without_last, without_last_after, is_layout, IsLeft, OnlyLayoutIsDropped}
use Rattle.std.specs.List.{list_all}
use Rattle.std.proofs.lemmas.Bool.{and_from}
use Rattle.std.proofs.lemmas.List.Folds.{list_all-append}

left-then : (ts us vs : List Token) → IsLeft ts us → IsLeft us vs → IsLeft ts vs
left-then ts us vs f g = grind (arith, append_assoc, list_all-append, and_from)

left-before : (test : Token → Bool) (t : Token) (ts us : List Token) → (test t ≡ true → is_layout t ≡ true)
    → IsLeft ts us → IsLeft (t ∷ ts) (before_last test t us)
left-before test t ts [] layout f =
    (elim (test t) as (λ b. test t ≡ b → IsLeft (t ∷ ts) (if b then [] else t ∷ [])) [
      | true ↦ λ h. record {
        rest = t ∷ f.rest;
        splits = ap (λ xs. t ∷ xs) f.splits;
        layout = and_from (is_layout t) (list_all is_layout f.rest) (layout h) f.layout;
      }
      | false ↦ λ h. record { rest = f.rest; splits = ap (λ xs. t ∷ xs) f.splits; layout = f.layout }
    ]) refl
left-before test t ts (u ∷ us) layout f = grind arith

left-last : (test : Token → Bool) (ts : List Token) → ((t : Token) → test t ≡ true → is_layout t ≡ true)
    → IsLeft ts (without_last test ts)
left-last test [] layout = record { rest = []; splits = refl; layout = refl }
left-last test (t ∷ ts) layout = grind (arith, left-before, left-last test ts layout)

left-after : (n : ℕ) (ts : List Token) → IsLeft ts (without_last_after n is_layout ts)
left-after n ts =
    grind (
      arith,
      left-last is_layout (drop n ts),
      take-append-drop n ts,
      append_assoc (take n ts) (without_last is_layout (drop n ts)),
    )

newline-layout : (t : Token) → is_newline t ≡ true → is_layout t ≡ true
newline-layout Newline h = refl
newline-layout t h = cc

left-blank : (ts : List Token) → IsLeft ts (without_blank ts)
left-blank [] = record { rest = []; splits = refl; layout = refl }
left-blank (Blank ∷ []) = record { rest = Blank ∷ []; splits = refl; layout = refl }
left-blank (t ∷ []) = record { rest = []; splits = refl; layout = refl }
left-blank (t ∷ u ∷ us) = grind (arith, left-blank (u ∷ us))

left-closed : (p : Part) → IsLeft p.tokens (at_close p).tokens
left-closed p = by (is_macro p.kind)
  where
    by : (b : Bool) → IsLeft p.tokens
        (let q : Part = if b then record p { tokens = without_blank (without_last is_newline p.tokens) } else p in
        q).tokens
    by true = left-then p.tokens (without_last is_newline p.tokens) (without_blank (without_last is_newline p.tokens))
        (left-last is_newline p.tokens newline-layout) (left-blank (without_last is_newline p.tokens))
    by false = record { rest = []; splits = sym (append-nil p.tokens); layout = refl }

take-none : (xs : List Token) → take zero xs ≡ []
take-none [] = refl
take-none (x ∷ xs) = refl

without_last-none : (test : Token → Bool) (ts : List Token) → list_all test ts ≡ true → without_last test ts ≡ []
without_last-none test [] h = refl
without_last-none test (t ∷ ts) h = grind (arith, without_last-none test ts)

pub only_layout_is_dropped : OnlyLayoutIsDropped
only_layout_is_dropped = grind (arith, left-after, left-closed, take-none, without_last-none)
