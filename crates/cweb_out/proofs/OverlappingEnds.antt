-- A string is covered by its first and last bytes if they overlap.
use Rattle.cweb_out.proofs.Common.{◌≡◌, ◌≤◌, ◌+◌, ◌-◌, ◌++◌, ◌∙◌, ℕ, List, length, take, drop, sym, ap, arith, rules, length-drop, append_assoc, take_at}
use Rattle.std.proofs.lemmas.List.{length-take-le, take-append-drop, take-append-le}
use Rattle.std.proofs.lemmas.Slice.{between_is}
use Rattle.std.proofs.Math.Seq.{take-append-add}

-- A prefix of a prefix.
pub taken_twice : (m n : ℕ) (text : List ℕ) → m ≤ n → n ≤ length text → take m (take n text) ≡ take m text
taken_twice m n text below within =
    sym (take-append-le m (take n text) (drop n text) (omega (arith, below, length-take-le n text within)))
    ∙ ap (take m) (take-append-drop n text)

-- A range between the used bytes and an index.
taken_after : (bytes : List ℕ) (used count : ℕ) → take (used - count) (drop count bytes) ≡ drop count (take used bytes)
taken_after bytes used count = search (rules, between_is)

pub overlapped : (before text : List ℕ) (n : ℕ) → n ≤ length text → length text ≤ n + n
    → take (length before + (length text - n)) (before ++ take n text) ++ drop (length text - n) text ≡ before ++ text
overlapped before text n least most = grind (arith, take-append-add, taken_twice, append_assoc, take-append-drop)

-- Bytes that were rotated: the suffix is now first.
pub rest_in_prefix : (bytes : List ℕ) (used count : ℕ) → count ≤ used → used ≤ length bytes
    → take (used - count) (drop count bytes ++ take count bytes) ≡ drop count (take used bytes)
rest_in_prefix bytes used count below within = grind (arith, take-append-le, length-drop, taken_after)

-- Bytes that were overwritten by as many.
pub whole_again : (old new : List ℕ) (count : ℕ) → length new ≡ count → take count (new ++ drop (length new) old) ≡ new
whole_again old new count is = take_at new (drop (length new) old) count is

-- A shorter prefix is unchanged if bytes were written after a longer one.
pub prefix_stays : (old new more : List ℕ) (used end : ℕ) → used ≤ end → used ≤ length old → end ≤ length new
    → take end new ≡ take used old ++ more → take used new ≡ take used old
prefix_stays old new more used end below within within' is =
    sym (taken_twice used end new below within') ∙ ap (take used) is
    ∙ take_at (take used old) more used (length-take-le used old within)
