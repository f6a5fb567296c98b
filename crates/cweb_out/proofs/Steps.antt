-- Printing token by token: the output of each one follows from the printer's state.
use Rattle.cweb_out.proofs.Common.{arith, ◌≡◌, ℕ, Bool, true, false, ◌&&◌, ◌||◌, not, cond, List, [], ◌∷◌, ◌++◌, refl, ap, append_assoc, append-nil, Option, None, Some, codes, nat_eq, fold, Token, Word, Punct, Blank, Defs, Mark, is_operator, is_one_of, is_wordlike, is_literal, is_number, is_comment, begins_with, are_apart, sep, macro_token_bytes, printed_tokens, Setting, stays_joined, is_layout, without_joined_layout, print_after, print, file, file_token_bytes, last_token, left_after, starts_line, begin_line, macro_lines, mark_line, file_name, Edge, Left, edge_of, edge_ends_line, is_apart, separator, left_after_token, at_start, left_after_tokens, added, all_added, begin_by, file_by, macro_by, second_so, last_is, first_is, is_numeric, punctuator_edge_by, sym, eqb-true, ◌==◌}

-- A point is an operator byte.
point-operator : (b : List ℕ) → last_is (λ x. x == 46) b ≡ true → last_is is_operator b ≡ true
point-operator [] h = h
point-operator (x ∷ []) h = ap is_operator (eqb-true x 46 h)
point-operator (x ∷ y ∷ b) h = point-operator (y ∷ b) h

-- The tests of a punctuator to the left agree with its edge.
punct_apart : (s n d o : Bool) (t : Token) → (d ≡ true → o ≡ true) →
    ((false && is_wordlike t && not (false && is_literal t))
    || (false && begins_with (is_one_of (codes ".+-")) t)
    || (d && is_number t)
    || (o && (begins_with is_operator t || is_comment t))
    || (false && is_comment t)) ≡ is_apart (punctuator_edge_by s n d o) t
punct_apart s n true false t h = cc (h refl)
punct_apart true n false false t h = refl
punct_apart false true false false t h = refl
punct_apart false false false false t h = refl
punct_apart true n false true t h = refl
punct_apart false true false true t h = refl
punct_apart false false false true t h = refl
punct_apart true n true true t h = refl
punct_apart false true true true t h = refl
punct_apart false false true true t h = refl

apart_by_edge : (u t : Token) → are_apart u t ≡ is_apart (edge_of (Some u)) t
apart_by_edge (Punct b) t = punct_apart (first_is is_numeric b) (first_is is_operator b)
    (last_is (λ x. nat_eq x 46) b) (last_is is_operator b) t (point-operator b)
apart_by_edge _ t = refl

pub sep_by_edge : (l : Option Token) (t : Token) → sep l t ≡ separator (edge_of l) t
sep_by_edge None t = refl
sep_by_edge (Some u) t = ap (λ b. cond b (codes " ") []) (apart_by_edge u t)

pub sign-goes_on : (s n d o : Bool) → edge_ends_line (punctuator_edge_by s n d o) ≡ false
sign-goes_on true n false false = refl
sign-goes_on false true false false = refl
sign-goes_on false false false false = refl
sign-goes_on _ _ _ _ = refl

starts_by_edge : (l : Option Token) → starts_line l ≡ edge_ends_line (edge_of l)
starts_by_edge (Some (Punct b)) = sym (sign-goes_on (first_is is_numeric b) (first_is is_operator b)
    (last_is (λ x. nat_eq x 46) b) (last_is is_operator b))
starts_by_edge _ = refl

pub begin_by_edge : (l : Option Token) → begin_line l ≡ begin_by (edge_of l)
begin_by_edge l = ap (λ b. cond b [] (codes "\n")) (starts_by_edge l)

-- The bytes of a token after the one to its left are those after its edge.
abbrev pub Agrees : (Option Token → Token → List ℕ) → (Edge → Token → List ℕ) → Type 0
Agrees text by = (l : Option Token) (t : Token) → text l t ≡ by (edge_of l) t

pub file_agrees : (s : Setting) → Agrees (file_token_bytes s) (file_by s)
file_agrees s l Defs = cc (begin_by_edge l, append-nil (begin_by (edge_of l) ++ macro_lines s))
file_agrees s l (Mark p) = cc (begin_by_edge l, append-nil (begin_by (edge_of l) ++ mark_line (file_name s p) p.line))
file_agrees s l _ = refl

macro_agrees : (replaced : ℕ → List ℕ) → Agrees (λ left. macro_token_bytes replaced) (macro_by replaced)
macro_agrees replaced l (Word b) = refl
macro_agrees replaced l _ = refl

layout_stays : (joined : Bool) (t : Token) → is_layout t ≡ true → stays_joined joined t ≡ joined
layout_stays joined Blank h = refl
layout_stays joined _ h = cc

-- The output of a list after a token is that of its tokens from the state.
pub printed_by : (text : Option Token → Token → List ℕ) (by : Edge → Token → List ℕ)
    → Agrees text by → (l : Option Token) (joined : Bool) (ts : List Token)
    → print_after text l (without_joined_layout joined ts)
    ≡ all_added by (record { last = edge_of l; joined = joined }) ts
printed_by text by agrees l joined [] = refl
printed_by text by agrees l joined (t ∷ ts) =
    cases (λ m j. printed_by text by agrees m j ts) (joined && is_layout t) refl
  where
    cases : ((m : Option Token) (j : Bool) → print_after text m (without_joined_layout j ts) ≡ all_added by
        (record { last = edge_of m; joined = j }) ts) → (b : Bool) → (joined && is_layout t) ≡ b → print_after text l
        (cond b (without_joined_layout (stays_joined joined t) ts)
        (t ∷ without_joined_layout (stays_joined joined t) ts)) ≡ cond b [] (separator
        (edge_of l) t ++ by (edge_of l) t) ++ all_added by (cond b (record { last = edge_of l; joined = joined })
        (record { last = edge_of (Some t); joined = stays_joined joined t })) ts
    cases later true e = cc (layout_stays joined t (second_so joined (is_layout t) e), later l joined)
    cases later false e = (λ i. (sep_by_edge l t i ++ agrees l t i) ++ later (Some t) (stays_joined joined t) i)

-- The state after the list.
pub kept_by : (l : Option Token) (joined : Bool) (ts : List Token)
    → edge_of (last_token l (without_joined_layout joined ts))
    ≡ (fold left_after_token (record { last = edge_of l; joined = joined }) ts).last
kept_by l joined [] = refl
kept_by l joined (t ∷ ts) = cases (λ m j. kept_by m j ts) (joined && is_layout t) refl
  where
    cases : ((m : Option Token) (j : Bool) → edge_of (last_token m (without_joined_layout j ts))
        ≡ (fold left_after_token (record { last = edge_of m; joined = j }) ts).last) → (b : Bool)
        → (joined && is_layout t)
        ≡ b → edge_of (last_token l
        (cond b (without_joined_layout (stays_joined joined t) ts)
        (t ∷ without_joined_layout (stays_joined joined t) ts)))
        ≡ (fold left_after_token (cond b (record { last = edge_of l; joined = joined })
        (record { last = edge_of (Some t); joined = stays_joined joined t })) ts).last
    cases later true e = cc (layout_stays joined t (second_so joined (is_layout t) e), later l joined)
    cases later false e = later (Some t) (stays_joined joined t)

pub added-append : (by : Edge → Token → List ℕ) (left : Left) (xs ys : List Token)
    → all_added by left (xs ++ ys) ≡ all_added by left xs ++ all_added by (fold left_after_token left xs) ys
added-append by left [] ys = refl
added-append by left (x ∷ xs) ys = grind (arith, append_assoc, added-append by (left_after_token left x) xs ys)

fold-append : (left : Left) (xs ys : List Token)
    → fold left_after_token left (xs ++ ys) ≡ fold left_after_token (fold left_after_token left xs) ys
fold-append left [] ys = refl
fold-append left (x ∷ xs) ys = fold-append (left_after_token left x) xs ys

-- A concatenation prints the first list, and then the second one from the state after it.
pub print-append : (s : Setting) (xs ys : List Token)
    → print s (xs ++ ys) ≡ print s xs ++ all_added (file_by s) (left_after_tokens xs) ys
print-append s xs ys =
    grind (
      arith,
      printed_by (file_token_bytes s) (file_by s) (file_agrees s) None false (xs ++ ys),
      file_agrees s,
      added-append (file_by s) at_start xs ys,
      printed_by (file_token_bytes s) (file_by s) (file_agrees s) None false xs,
    )

pub leaves-push : (ts : List Token) (t : Token)
    → left_after_tokens (ts ++ t ∷ []) ≡ left_after_token (left_after_tokens ts) t
leaves-push ts t = fold-append at_start ts (t ∷ [])

-- One more token.
pub print-push : (s : Setting) (left : Left) (ts : List Token) (t : Token)
    → left_after_tokens ts ≡ left → print s (ts ++ t ∷ []) ≡ print s ts ++ added (file_by s) left t
print-push s left ts t is = cc (print-append s ts (t ∷ []), append-nil (added (file_by s) (left_after_tokens ts) t))

-- The end of a file.
pub file-end : (s : Setting) (left : Left) (ts : List Token)
    → left_after_tokens ts ≡ left → file s ts ≡ print s ts ++ begin_by left.last
file-end s left ts is = cc (begin_by_edge (left_after ts), kept_by None false ts)

-- The tokens of a macro.
pub macro-printed : (replaced : ℕ → List ℕ) (ts : List Token)
    → printed_tokens (λ left. macro_token_bytes replaced) ts ≡ all_added (macro_by replaced) at_start ts
macro-printed replaced ts = grind (arith, printed_by, macro_agrees replaced)

pub added-push : (by : Edge → Token → List ℕ) (ts : List Token) (t : Token)
    → all_added by at_start (ts ++ t ∷ []) ≡ all_added by at_start ts ++ added by (left_after_tokens ts) t
added-push by ts t = cc (added-append by at_start ts (t ∷ []), append-nil (added by (left_after_tokens ts) t))
