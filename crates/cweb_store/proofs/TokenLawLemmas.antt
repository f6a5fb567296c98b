-- The tokens of a builder's parts are those that were pushed, less dropped layout.
use Rattle.cweb_store.proofs.Common.{arith, ◌≡◌, inl, inr, true, List, [], ◌∷◌, ◌++◌, refl, ap, subst, append_assoc, append-nil, option_to_list, filter_map, fold, flat_map-append, Token, Part, all_tokens, is_layout, all_parts, Contents, empty, Call, Occurs, Opens, Pushes, Drops, Closes, Transliterates, after_call, AcceptsCall, AcceptsCalls, IsLeft, token_of_call, IsLeftOfTokens, TokensAreThosePushed}
use Rattle.std.specs.List.{list_all}
use Rattle.cweb_store.proofs.LayoutLawLemmas.{only_layout_is_dropped}

left-same : (us : List Token) → IsLeftOfTokens us us
left-same [] = refl
left-same (u ∷ us) = inr (us, refl, left-same us)

-- More tokens at the end of both lists.
left-more : (us ts more : List Token) → IsLeftOfTokens us ts → IsLeftOfTokens (us ++ more) (ts ++ more)
left-more [] ts more h = rw h (left-same more)
left-more (u ∷ us) ts more h = elim h [
  | inl k ↦ inl (k.0, left-more us ts more k.1)
  | inr k ↦ inr (k.0 ++ more, ap (λ xs. xs ++ more) k.1, left-more us k.0 more k.2)
]

-- Without trailing layout.
left-less : (us ts rest : List Token) → IsLeftOfTokens us (ts ++ rest) → list_all is_layout rest ≡ true
    → IsLeftOfTokens us ts
left-less [] [] rest h all = refl
left-less [] (t ∷ ts) rest h all = cc
left-less (u ∷ us) ts rest (inl k) all = inl (k.0, left-less us ts rest k.1 all)
left-less (u ∷ us) [] rest (inr k) all = grind (arith, left-less us [] k.0 k.2, k.1)
left-less (u ∷ us) (t ∷ ts) rest (inr k) all = grind (arith, left-less us ts rest)

tokens-last : (ps : List Part) (p : Part) → all_tokens (ps ++ p ∷ []) ≡ all_tokens ps ++ p.tokens
tokens-last ps p = simp (flat_map-append {X = Part} {A = Token}, append-nil)

abbrev tokens_of : Contents → List Token
tokens_of c = all_tokens (all_parts c.parts)

-- A change of the last part.
left-last : (ps : List Part) (p q : Part) → IsLeft p.tokens q.tokens
    → IsLeft (all_tokens (ps ++ p ∷ []) ++ []) (all_tokens (ps ++ q ∷ []))
left-last ps p q f = grind (arith, tokens-last ps, append-nil, append_assoc (all_tokens ps) q.tokens f.rest)

left-call : (c : Contents) (call : Call) → AcceptsCall c call
    → IsLeft (tokens_of c ++ option_to_list (token_of_call call)) (tokens_of (after_call c call))
left-call c (Occurs o) h = grind (arith, append-nil)
left-call c (Opens kind) h = grind (arith, append-nil, tokens-last c.parts.closed, h.0)
left-call c (Pushes t) h = grind (arith, append-nil, append_assoc, tokens-last c.parts.closed, h.0)
left-call c Drops h = grind (arith, left-last c.parts.closed, only_layout_is_dropped.dropped)
left-call c Closes h = grind (arith, append-nil, left-last c.parts.closed, only_layout_is_dropped.closed)
left-call c (Transliterates r) h = grind (arith, append-nil)

first-call : (call : Call) (calls : List Call) → filter_map token_of_call (call ∷ calls)
    ≡ option_to_list (token_of_call call) ++ filter_map token_of_call calls
first-call (Pushes t) calls = refl
first-call call calls = refl

left-calls : (us : List Token) (c : Contents) (calls : List Call) → IsLeftOfTokens us (tokens_of c)
    → AcceptsCalls c calls
    → IsLeftOfTokens (us ++ filter_map token_of_call calls) (tokens_of (fold after_call c calls))
left-calls us c [] h takes = rw append-nil h
left-calls us c (call ∷ calls) h takes =
    let f = left-call c call takes.0 in
    let more = option_to_list (token_of_call call) in
    let next : IsLeftOfTokens (us ++ more) (tokens_of (after_call c call)) =
    left-less (us ++ more) (tokens_of (after_call c call)) f.rest
    (subst (IsLeftOfTokens (us ++ more)) f.splits (left-more us (tokens_of c) more h)) f.layout in
    rw (first-call call calls, ← append_assoc us more (filter_map token_of_call calls))
    (left-calls (us ++ more) (after_call c call) calls next takes.1)

pub tokens_are_those_pushed : TokensAreThosePushed
tokens_are_those_pushed calls takes = left-calls [] empty calls refl takes
