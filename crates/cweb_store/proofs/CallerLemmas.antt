-- How many tokens and parts a builder holds after a call. Callers need it for their `requires`.
use Rattle.cweb_store.proofs.Common.{◌≡◌, ◌≤◌, ap, IsLeft, ◌+◌, List, [], ◌∷◌, ◌++◌, length, arith, append-nil, length-append, IsSome, IsNone, flat_map-append, PartKind, Token, Part, all_tokens, PartsSoFar, with_closed_part, with_dropped_layout, with_opened_part, with_pushed_token, part_count, token_count}
use Rattle.cweb_store.proofs.LayoutLawLemmas.{only_layout_is_dropped}

pub tokens-last : (ps : List Part) (p : Part)
    → length (all_tokens (ps ++ p ∷ [])) ≡ length (all_tokens ps) + length p.tokens
tokens-last ps p = simp (flat_map-append {X = Part} {A = Token}, append-nil, length-append)

pub token_count_opened : (kind : PartKind) (v : PartsSoFar)
    → IsNone v.current → token_count (with_opened_part kind v) ≡ token_count v
token_count_opened kind v none = grind (arith, tokens-last v.closed, append-nil v.closed)

pub token_count_pushed : (t : Token) (v : PartsSoFar) → IsSome v.current
    → token_count (with_pushed_token t v) ≡ token_count v + 1
token_count_pushed t v some = grind (arith, tokens-last v.closed, length-append)

left-length : (ts us : List Token) → IsLeft ts us → length us ≤ length ts
left-length ts us f = omega (arith, ap length f.splits, length-append us f.rest)

pub token_count_dropped : (v : PartsSoFar) → token_count (with_dropped_layout v) ≤ token_count v
token_count_dropped v = grind (arith, tokens-last v.closed, left-length, only_layout_is_dropped.dropped)

pub token_count_closed : (v : PartsSoFar) → token_count (with_closed_part v) ≤ token_count v
token_count_closed v = grind (arith, tokens-last v.closed, left-length, only_layout_is_dropped.closed, append-nil)

pub part_count_opened : (kind : PartKind) (v : PartsSoFar)
    → IsNone v.current → part_count (with_opened_part kind v) ≡ part_count v + 1
part_count_opened kind v none = grind (arith, length-append v.closed)

pub part_count_pushed : (t : Token) (v : PartsSoFar) → part_count (with_pushed_token t v) ≡ part_count v
part_count_pushed t v = grind (arith, length-append v.closed)

pub part_count_dropped : (v : PartsSoFar) → part_count (with_dropped_layout v) ≡ part_count v
part_count_dropped v = grind (arith, length-append v.closed)

pub part_count_closed : (v : PartsSoFar) → part_count (with_closed_part v) ≡ part_count v
part_count_closed v = grind (arith, length-append, append-nil)
