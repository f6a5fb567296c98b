-- Only section comments are printed between joined tokens.
use Rattle.cweb_out.proofs.Common.{◌≡◌, ℕ, Bool, true, false, List, [], ◌∷◌, ◌++◌, refl, ap, arith, append_assoc, codes, Option, None, Some, list_all, Token, Punct, Blank, Newline, Join, Defs, Head, Tail, Setting, file_token_bytes, without_joined_layout, print_after, stays_joined, sep}
use Rattle.std.specs.Prelude.{if◌then◌else◌}
use Rattle.cweb_store.specs.Parts.{Mark, is_comment}
use Rattle.cweb_out.specs.laws.Laws.{blank_if, section_comments, OnlySectionCommentsComeBetweenJoinedTokens}
use Rattle.cweb_out.proofs.LawLemmas.{print_goes_on}

-- The token to the left of a token that comes after a Join.
abbrev IsLeft : Token → Type 0
IsLeft Join = Unit {0}
IsLeft (Head n) = Unit {0}
IsLeft (Tail n) = Unit {0}
IsLeft t = ⊥

abbrev is_join : Token → Bool
is_join Join = true
is_join t = false

no_blank : (l : Token) → IsLeft l → (t : Token) → is_comment t ≡ false → sep (Some l) t ≡ []
no_blank Join h t e = ap (λ v. if v then codes " " else []) e
no_blank (Head n) h t e = refl
no_blank (Tail n) h t e = refl
no_blank l h t e = absurd h

blank-head : (l : Token) → IsLeft l → (n : ℕ) → sep (Some l) (Head n) ≡ blank_if (is_join l)
blank-head Join h n = refl
blank-head (Head m) h n = refl
blank-head (Tail m) h n = refl
blank-head l h n = absurd h

blank-tail : (l : Token) → IsLeft l → (n : ℕ) → sep (Some l) (Tail n) ≡ blank_if (is_join l)
blank-tail Join h n = refl
blank-tail (Head m) h n = refl
blank-tail (Tail m) h n = refl
blank-tail l h n = absurd h

-- The bytes of the token after the section comments.
same-bytes : (s : Setting) (l : Token) → IsLeft l → (t : Token)
    → stays_joined true t ≡ false → file_token_bytes s (Some l) t ≡ file_token_bytes s (Some Join) t
same-bytes s l h (Mark p) e = cc
same-bytes s Join h Defs e = refl
same-bytes s (Head n) h Defs e = refl
same-bytes s (Tail n) h Defs e = refl
same-bytes s l h Defs e = absurd h
same-bytes s l h t e = refl

no-comment : (t : Token) → stays_joined true t ≡ false → is_comment t ≡ false
no-comment (Head n) e = cc
no-comment _ e = cc

-- The token stays, and ends the join.
ends-join : (t : Token) (ts : List Token) → stays_joined true t ≡ false
    → without_joined_layout true (t ∷ ts) ≡ t ∷ without_joined_layout false ts
ends-join Join ts e = cc
ends-join _ ts e = cc

module _ (s : Setting) (t : Token) (after : List Token) (ends : stays_joined true t ≡ false) where
  abbrev rest : List ℕ
  rest = file_token_bytes s (Some Join) t
      ++ print_after (file_token_bytes s) (Some t) (without_joined_layout false after)

  at-token : (l : Token) → IsLeft l → print_after (file_token_bytes s) (Some l) (without_joined_layout true (t ∷ after))
      ≡ rest
  at-token l h = grind (arith, ends-join, no_blank, no-comment, same-bytes)

  between-tokens : (l : Token) → IsLeft l → (between : List Token) → list_all (stays_joined true) between ≡ true
      → print_after (file_token_bytes s) (Some l) (without_joined_layout true (between ++ t ∷ after))
      ≡ section_comments s (is_join l) between ++ rest
  between-tokens l h [] e = at-token l h
  between-tokens l h (Blank ∷ between) e = between-tokens l h between e
  between-tokens l h (Newline ∷ between) e = between-tokens l h between e
  between-tokens l h (Mark p ∷ between) e = between-tokens l h between e
  between-tokens l h (Join ∷ between) e = grind (arith, no_blank, between-tokens Join tt between e)
  between-tokens l h (Head n ∷ between) e =
      grind (arith, blank-head, append_assoc, between-tokens (Head n) tt between e)
  between-tokens l h (Tail n ∷ between) e =
      grind (arith, blank-tail, append_assoc, between-tokens (Tail n) tt between e)
  between-tokens l h (u ∷ between) e = cc

-- A Join itself prints nothing.

sep-join : (l : Option Token) → sep l Join ≡ []
sep-join None = refl
sep-join (Some (Punct b)) = grind arith
sep-join (Some l) = refl

join-stays : (joined : Bool) (ts : List Token)
    → without_joined_layout joined (Join ∷ ts) ≡ Join ∷ without_joined_layout true ts
join-stays true ts = refl
join-stays false ts = refl

pub only_section_comments_come_between_joined_tokens : OnlySectionCommentsComeBetweenJoinedTokens
only_section_comments_come_between_joined_tokens s before between after t stays ends =
    grind (arith, print_goes_on, join-stays, sep-join, between-tokens)
