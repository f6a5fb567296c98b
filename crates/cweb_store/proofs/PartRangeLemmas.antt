-- Changes of parts that are ranges of one list of tokens.
use Rattle.cweb_store.proofs.Common.{◌≡◌, ℕ, ◌+◌, ◌-◌, ◌≤◌, ◌<◌, List, [], ◌∷◌, ◌++◌, Some, None, Option, map, length, take, drop, refl, sym, ap, subst, arith, append_assoc, append-nil, length-append, length-drop, option_map, IsSome, take-append-drop, take_all, map-append, flat_map-append, PartKind, PartRange, Token, Part, all_tokens, all_parts, with_pushed_token, too_many, ranges_from, IsWhole, closed_in, slice_range, Open}
use Rattle.std.proofs.Math.Seq.{drop-length, length-take-le}
use Rattle.std.proofs.lemmas.List.{drop-drop, drop-append-le, take-append-le, drop-take, take-take}
use Rattle.cweb_store.specs.inner.PartRanges.{last_range, open_in, parts_in, RangesFollow, ArePartRanges}

slice_range-take : (ts : List Token) (n i j : ℕ) → j ≤ n → slice_range (take n ts) i j ≡ slice_range ts i j
slice_range-take ts n i j h = grind (arith, drop-take i (n - i) ts, take-take (j - i) (n - i) (drop i ts) (omega arith))

pub Follow-le : (n end : ℕ) (ranges : List PartRange) → RangesFollow n ranges end → n ≤ end
Follow-le n end [] h = omega arith
Follow-le n end (r ∷ ranges) h = omega (arith, h.1, Follow-le r.part.after end ranges h.2)

-- Parts within a prefix of the tokens depend on that prefix only.
parts-add_string : (ranges : List PartRange) (ts us : List Token) (n end : ℕ) → RangesFollow n ranges end
    → take end ts ≡ take end us → map (closed_in ts) ranges ≡ map (closed_in us) ranges
parts-add_string [] ts us n end h same = refl
parts-add_string (r ∷ ranges) ts us n end h same =
    grind (
      arith,
      Follow-le r.part.after end ranges h.2,
      slice_range-take ts end r.part.first r.part.after,
      slice_range-take us end r.part.first r.part.after,
      parts-add_string ranges ts us r.part.after end h.2 same,
    )

-- The ranges of the parts.
pub runs_from-parts : (ranges : List PartRange) (ts : List Token) (n end : ℕ)
    → RangesFollow n ranges end → end ≤ length ts → ranges_from n (map (closed_in ts) ranges) ≡ ranges
runs_from-parts [] ts n end h within = refl
runs_from-parts (r ∷ ranges) ts n end h within =
    grind (arith, Follow-le, length-take-le, length-drop, runs_from-parts ranges ts r.part.after end h.2 within)

slice_range-drop : (ts : List Token) (n i j : ℕ) → i ≡ n → n ≤ j → slice_range ts i j ++ drop j ts ≡ drop n ts
slice_range-drop ts n i j same le = grind (arith, drop-drop (j - i) i ts, take-append-drop (j - i) (drop i ts))

-- The tokens of the closed parts, followed by the others, are all tokens.
closed-whole : (ranges : List PartRange) (ts : List Token) (n end : ℕ) → RangesFollow n ranges end
    → end ≤ length ts → all_tokens (map (closed_in ts) ranges) ++ drop end ts ≡ drop n ts
closed-whole [] ts n end h within = ap (λ k. drop k ts) (sym h)
closed-whole (r ∷ ranges) ts n end h within =
    grind (arith, append_assoc, closed_in, slice_range-drop, closed-whole ranges ts r.part.after end h.2 within)

pub tokens-whole : (ts : List Token) (ranges : List PartRange) (current : Option Open) (places : ℕ)
    → ArePartRanges ts ranges current places → all_tokens (all_parts (parts_in ts ranges current)) ≡ ts
tokens-whole ts ranges None places tied =
    cc (
      closed-whole ranges ts 0 (length ts) tied.follow tied.within,
      append-nil (map (closed_in ts) ranges),
      append-nil (all_tokens (map (closed_in ts) ranges)),
      drop-length ts,
    )
tokens-whole ts ranges (Some o) places tied =
    simp (flat_map-append {X = Part} {A = Token}, append-nil) (closed-whole ranges ts 0 o.first tied.follow tied.within)

pub push-parts : (ts : List Token) (t : Token) (ranges : List PartRange) (current : Option Open) (places : ℕ)
    → IsSome (option_map (open_in ts) current) → ArePartRanges ts ranges current places
    → parts_in (ts ++ t ∷ []) ranges current ≡ with_pushed_token t (parts_in ts ranges current)
push-parts ts t ranges None places some tied = cc
push-parts ts t ranges (Some o) places some tied = grind (arith, parts-add_string, take-append-le, drop-append-le)

pub push-are : (ts : List Token) (t : Token) (ranges : List PartRange) (current : Option Open) (places : ℕ)
    → length ts + 1 < too_many → IsSome (option_map (open_in ts) current)
    → ArePartRanges ts ranges current places → ArePartRanges (ts ++ t ∷ []) ranges current places
push-are ts t ranges None places few some tied = cc
push-are ts t ranges (Some o) places few some tied = grind (arith, length-append ts (t ∷ []))

Follow-push : (n end after : ℕ) (ranges : List PartRange) (kind : PartKind) → RangesFollow n ranges end → end ≤ after
    → RangesFollow n (ranges ++ (record { kind = kind; part = record { first = end; after = after } }) ∷ []) after
Follow-push n end after [] kind h le = (sym h, omega arith, refl)
Follow-push n end after (r ∷ ranges) kind h le = (h.0, h.1, Follow-push r.part.after end after ranges kind h.2 le)

-- The open part becomes closed, unchanged.
pub close-parts : (ts : List Token) (ranges : List PartRange) (o : Open) (places : ℕ)
    → ArePartRanges ts ranges (Some o) places
    → parts_in ts (ranges ++ last_range o (length ts) ∷ []) None
    ≡ record { closed = all_parts (parts_in ts ranges (Some o)); current = None }
close-parts ts ranges o places tied = grind (arith, take_all, length-drop, map-append, closed_in)

pub close-are : (ts : List Token) (ranges : List PartRange) (o : Open) (places more : ℕ)
    → ArePartRanges ts ranges (Some o) places → ArePartRanges ts (ranges ++ last_range o (length ts) ∷ []) None more
close-are ts ranges o places more tied = grind (arith, Follow-push, length-append)

-- The open part loses its last tokens.
cut-closed : (ts : List Token) (ranges : List PartRange) (o : Open) (places n : ℕ)
    → ArePartRanges ts ranges (Some o) places
    → o.first ≤ n → map (closed_in (take n ts)) ranges ≡ map (closed_in ts) ranges
cut-closed ts ranges o places n tied le = grind (arith, parts-add_string, take-take)

pub cut-parts : (ts : List Token) (ranges : List PartRange) (o : Open) (places n : ℕ) (p : Part)
    → ArePartRanges ts ranges (Some o) places → o.first ≤ n → open_in (take n ts) o ≡ p →
    parts_in (take n ts) ranges (Some o) ≡ record { closed = map (closed_in ts) ranges; current = Some p }
cut-parts ts ranges o places n p tied le same = cc (cut-closed ts ranges o places n tied le)

pub cut-are : (ts : List Token) (ranges : List PartRange) (o : Open) (places n : ℕ)
    → ArePartRanges ts ranges (Some o) places
    → o.first ≤ n → n ≤ length ts → ArePartRanges (take n ts) ranges (Some o) places
cut-are ts ranges o places n tied le within = grind (arith, length-take-le n ts within)

-- The open part loses its last tokens and is closed.
pub close-cut : (ts : List Token) (ranges : List PartRange) (o : Open) (places n : ℕ) (p : Part)
    → ArePartRanges ts ranges (Some o) places → o.first ≤ n → n ≤ length ts → open_in (take n ts) o ≡ p →
    parts_in (take n ts) (ranges ++ last_range o n ∷ []) None
    ≡ record { closed = map (closed_in ts) ranges ++ p ∷ []; current = None }
close-cut ts ranges o places n p tied le within same =
    grind (
      arith,
      length-take-le n ts within,
      close-parts (take n ts) ranges o places (cut-are ts ranges o places n tied le within),
      cut-parts ts ranges o places n p tied le same,
    )

pub close-cut-are : (ts : List Token) (ranges : List PartRange) (o : Open) (places more n : ℕ)
    → ArePartRanges ts ranges (Some o) places
    → o.first ≤ n → n ≤ length ts → ArePartRanges (take n ts) (ranges ++ last_range o n ∷ []) None more
close-cut-are ts ranges o places more n tied le within =
    subst (λ (k : ℕ). ArePartRanges (take n ts) (ranges ++ last_range o k ∷ []) None more) (length-take-le n ts within)
    (close-are (take n ts) ranges o places more (cut-are ts ranges o places n tied le within))

-- Closed parts cover all tokens.
pub whole-tokens : (ts : List Token) (ranges : List PartRange) → IsWhole ts ranges
    → all_tokens (map (closed_in ts) ranges) ≡ ts
whole-tokens ts ranges tied =
    cc (
      append-nil (all_tokens (map (closed_in ts) ranges)),
      drop-length ts,
      closed-whole ranges ts 0 (length ts) tied.follow (omega arith),
    )
