-- Macros as ranges of token indices.
use Rattle.cweb_out.proofs.Common.{◌≡◌, ◌≤◌, ◌<◌, ◌+◌, ◌-◌, ℕ, suc, Bool, true, false, cond, List, [], ◌∷◌, ◌++◌, refl, sym, ◌∙◌, ap, map, take, drop, length, slice_range, arith, get_or, subst, flat_map, filter, All, slice_get, Some, drop-drop, take_at, drop_at, take_more, get_or-drop, length-drop, take-add, Edge, Left, added, all_added, at_start, left_after_tokens, left_after_token, PartKind, Token, all_tokens, is_macro, numbers_from, numbers_where, Stored, macro_line, macros, replaced_in, tokens_of_part, slice_get_within}
use Rattle.cweb_out.proofs.Steps.{added-append, added-push, leaves-push}
use Rattle.cweb_out.proofs.Ranges.{slice_get-or, slice_range-first}
use Rattle.cweb_store.proofs.RangeLemmas.{range-none}
use Rattle.cweb_store.specs.declared.parts.Part as declared
use Rattle.cweb_store.specs.Parts.{Part}

-- The lines of ranges.
abbrev pub lines : Stored → List declared.Part → List ℕ
lines w runs = flat_map (λ run. macro_line (replaced_in w) (tokens_of_part w run)) runs

abbrev pub all_lines : Stored → List ℕ
all_lines w = flat_map (macro_line (replaced_in w)) (macros w)

lines_from : (w : Stored) (test : PartKind → Bool) (ps : List Part) (n : ℕ)
    → drop n (all_tokens w.parts) ≡ all_tokens ps → lines w (numbers_from test n ps)
    ≡ flat_map (macro_line (replaced_in w)) (map (λ (p : Part). p.tokens) (filter (λ (p : Part). test p.kind) ps))
lines_from w test [] n h = refl
lines_from w test (p ∷ ps) n h =
    let size = length p.tokens in
    let gap : n + size - n ≡ size = omega arith in
    let here : slice_range (all_tokens w.parts) n (n + size) ≡ p.tokens = grind (arith, take_at) in
    let others : drop (n + size) (all_tokens w.parts) ≡ all_tokens ps = sym (drop-drop size n (all_tokens w.parts))
    ∙ ap (drop size) h
    ∙ drop_at p.tokens (all_tokens ps) size refl in
    let later = lines_from w test ps (n + size) others in
    elim (test p.kind) as (λ b. lines w (cond b ((record { first = n; after = n + size }) ∷ numbers_from test (n + size)
    ps) (numbers_from test (n + size) ps)) ≡ flat_map (macro_line (replaced_in w)) (map (λ (q : Part). q.tokens)
    (cond b (p ∷ filter (λ (q : Part). test q.kind) ps) (filter (λ (q : Part). test q.kind) ps)))) [
      | true ↦ (λ i. macro_line (replaced_in w) (here i) ++ later i)
      | false ↦ later
    ]

pub lines_are : (w : Stored) → lines w (numbers_where is_macro w.parts) ≡ all_lines w
lines_are w = lines_from w is_macro w.parts 0 refl

-- A range with one more token.
pub range_more : (ts : List Token) (a n : ℕ) (t : Token) → a ≤ n
    → slice_get ts n ≡ Some t → slice_range ts a (n + 1) ≡ slice_range ts a n ++ t ∷ []
range_more ts a n t le is =
    let gap : n + 1 - a ≡ (n - a) + 1 = omega arith in
    let lt : n < length ts = slice_get_within ts n t is in
    let fits : n - a < length (drop a ts) = omega (arith, length-drop a ts) in
    let at : a + (n - a) ≡ n = omega arith in
    ap (λ k. take k (drop a ts)) gap ∙ take_more (drop a ts) (n - a) t fits
    ∙ ap (λ x. take (n - a) (drop a ts) ++ x ∷ [])
    (get_or-drop a ts (n - a) t ∙ ap (λ k. get_or ts k t) at ∙ sym (slice_get-or ts n t is))

pub All-tail : (P : declared.Part → Type 0) (xs ys : List declared.Part) (x : declared.Part)
    → xs ≡ x ∷ ys → All P xs → P x × All P ys
All-tail P xs ys x is all =
    let both : All P (x ∷ ys) = subst (All P) is all in
    (both 0 x (omega arith), λ k d l. both (suc k) d (omega arith))

range_split : (ts : List Token) (a n b : ℕ) (t : Token) → a ≤ n → n < b → b ≤ length ts
    → slice_get ts n ≡ Some t → slice_range ts a b ≡ slice_range ts a n ++ t ∷ slice_range ts (n + 1) b
range_split ts a n b t le lt within is =
    grind (
      arith,
      take-add (n - a) (b - n) (drop a ts),
      drop-drop (n - a) a ts,
      slice_range-first ts n b t lt within
          (slice_get-or ts n t is),
      slice_get-or ts n t is,
    )

-- The tokens of a macro: the printed ones, the next one, and the rest.
pub tokens_at : (by : Edge → Token → List ℕ) (ts : List Token) (a n b : ℕ) (t : Token) (left : Left)
    → a ≤ n → n < b → b ≤ length ts → slice_get ts n ≡ Some t
    → left ≡ left_after_tokens (slice_range ts a n) → all_added by at_start (slice_range ts a b) ≡ all_added
    by at_start (slice_range ts a n)
    ++ (added by left t ++ all_added by (left_after_token left t) (slice_range ts (n + 1) b))
tokens_at by ts a n b t left le lt within is now =
    cc (
      range_split ts a n b t le lt within is,
      added-append by at_start (slice_range ts a n) (t ∷ slice_range ts (n +
          1) b),
    )

-- Of a macro's tokens, none was printed, or one more.
pub none_added : (by : Edge → Token → List ℕ) (ts : List Token) (a : ℕ)
    → [] ≡ all_added by at_start (slice_range ts a a)
none_added by ts a = ap (all_added by at_start) (sym (range-none ts a a (omega arith)))

pub one_added : (by : Edge → Token → List ℕ) (ts : List Token) (a n : ℕ) (t : Token) (left : Left) → a ≤ n
    → slice_get ts n ≡ Some t → left ≡ left_after_tokens (slice_range ts a n)
    → all_added by at_start (slice_range ts a n) ++ added by left t ≡ all_added by at_start (slice_range ts a (n + 1))
one_added by ts a n t left le is now = cc (added-push by (slice_range ts a n) t, range_more ts a n t le is)

pub left_more : (ts : List Token) (a n : ℕ) (t : Token) (left next : Left) → a ≤ n → slice_get ts n ≡ Some t
    → left ≡ left_after_tokens (slice_range ts a n) → next ≡ left_after_token left t
    → next ≡ left_after_tokens (slice_range ts a (n + 1))
left_more ts a n t left next le is now after = cc (leaves-push (slice_range ts a n) t, range_more ts a n t le is)
