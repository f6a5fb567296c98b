-- Adjacent lines in the buffer, and the lines of the source that they are.
use Rattle.cweb_lines.proofs.Common.{◌≡◌, ◌≤◌, ◌<◌, ◌+◌, ◌-◌, ℕ, Bool, List, [], ◌∷◌, ◌++◌, length, map, take, drop, Option, Some, None, refl, sym, ◌∙◌, ap, arith, take-add, take-append-add, append-nil, append_assoc, append_cancel_right, drop-drop, length-append, length-map, length-take, map-append, take-take, take_all, slice_range, IfSome, WaitingEntry, SplitsAt, CutLine, numbered_lines, cut_lines, trimmed, AllByRecursion, PassesThrough, HasRoomFor, IsRun, IsRunAt, IsRunOf, IsStretch, IsStretchAt, OnlyLastExceeds, Reaches, IsStretchOf, line_with_newline, trimmed_with_newlines, sources_next, with_newlines, all_but_last, buffered, lines_at, TakenCounters, LINES, BYTES, Stretch, OpenSource}
use Rattle.cweb_lines.proofs.Newlines.{after_newline, text_lines-full}

pub standing-append : (a b : List (List ℕ)) → with_newlines (a ++ b) ≡ with_newlines a ++ with_newlines b
standing-append [] b = refl
standing-append (line ∷ a) b = simp (standing-append a b, append_assoc)

printed-append : (a b : List (List ℕ))
    → trimmed_with_newlines (a ++ b) ≡ trimmed_with_newlines a ++ trimmed_with_newlines b
printed-append a b = simp (map-append, standing-append)

pub all_but_last-append : {A : Type 0} (a b : List A) → 0 < length b → all_but_last (a ++ b) ≡ a ++ all_but_last b
all_but_last-append a b some = grind (arith, length-append a b, some, take-append-add a b (length b - 1))

-- One line after others that have fewer bytes.
pub within_before : (room : ℕ) (a b : List (List ℕ)) → length b ≡ 1 → length (with_newlines a) < room
    → OnlyLastExceeds room (a ++ b)
within_before room a (line ∷ []) one few = grind (arith, all_but_last-append, append-nil)
within_before room a [] one few = absurd (omega (arith, one))
within_before room a (line ∷ other ∷ b) one few = absurd (omega (arith, one))

passing-append : (entry : Option WaitingEntry) (may_match : Bool) (a b : List (List ℕ))
    → AllByRecursion (PassesThrough entry may_match) a
    → AllByRecursion (PassesThrough entry may_match) b → AllByRecursion (PassesThrough entry may_match) (a ++ b)
passing-append entry may_match [] b first then = then
passing-append entry may_match (line ∷ a) b first then = (first.0, passing-append entry may_match a b first.1 then)

pub slice_split : (buffer : List ℕ) (i j k : ℕ) → i ≤ j → j ≤ k
    → slice_range buffer i k ≡ slice_range buffer i j ++ slice_range buffer j k
slice_split buffer i j k low high =
    let count : k - i ≡ (j - i) + (k - j) = omega arith in
    let place : i + (j - i) ≡ j = omega arith in
    ap (λ n. take n (drop i buffer)) count ∙ take-add (j - i) (k - j) (drop i buffer)
    ∙ ap (λ (l : List ℕ). take (j - i) (drop i buffer) ++ take (k - j) l)
    (drop-drop (j - i) i buffer ∙ ap (λ n. drop n buffer) place)

-- One line of the buffer.
module _ (entry : Option WaitingEntry) (may_match : Bool) (buffer : List ℕ) (start end at len : ℕ)
    (splits : SplitsAt (slice_range buffer start end) at) (le : start ≤ end) (within : len ≤ at)
    (trims : take len (take at (slice_range buffer start end)) ≡ trimmed (take at (slice_range buffer start end)))
    (s : Stretch) (text : s.text ≡ start + len) (ends : s.end ≡ start + at + 1) (lines : s.lines ≡ 1) where
  abbrev raw : List ℕ
  raw = take at (slice_range buffer start end)

  near : at < end - start
  near = omega (arith, splits.within, length-take (end - start) (drop start buffer))

  length_is : length raw ≡ at
  length_is = omega (arith, splits.within, length-take at (slice_range buffer start end))

  in_place : slice_range buffer start s.end ≡ raw ++ 10 ∷ []
  in_place =
      let place : start + (at + 1) ≡ s.end = omega (arith, ends) in
      append_cancel_right _ _ (slice_range buffer s.end end) (sym (slice_split buffer start s.end end
      (omega (arith, ends)) (omega (arith, ends, near, le))) ∙ after_newline buffer start end at splits le ∙ ap
      (λ n. raw ++ 10 ∷ slice_range buffer n end) place
      ∙ sym (append_assoc raw (10 ∷ []) (slice_range buffer s.end end)))

  printed_is : slice_range buffer start s.text ≡ trimmed raw
  printed_is = grind (arith, take-take, near)

  untrimmed : s.text + 1 ≡ s.end → raw ≡ trimmed raw
  untrimmed is = sym (take_all len raw (omega (arith, length_is, is, text, ends))) ∙ trims

  pub one_line : PassesThrough entry may_match raw → IsStretch entry may_match buffer start s (raw ∷ [])
  one_line passes = grind (arith, in_place, length-append, length_is, printed_is, untrimmed)

pub joined : (entry : Option WaitingEntry) (may_match : Bool) (buffer : List ℕ) (start : ℕ) (s t u : Stretch)
    (a b : List (List ℕ)) → IsStretch entry may_match buffer start s a → s.text + 1 ≡ s.end
    → IsStretch entry may_match buffer s.end t b → u.text ≡ t.text → u.end ≡ t.end → u.lines ≡ s.lines + t.lines
    → IsStretch entry may_match buffer start u (a ++ b)
joined entry may_match buffer start s t u a b first whole then text ends lines = record {
  passing = passing-append entry may_match a b first.passing then.passing;
  lines = omega (arith, lines, first.lines, then.lines, length-append a b);
  in_place =
      simp (ends, split t.end (omega (arith, then.forth, then.before)), first.in_place, then.in_place, standing-append);
  size = omega (
    arith,
    ends,
    first.size,
    then.size,
    ap (λ (l : List ℕ). length l) (standing-append a b),
    length-append (with_newlines a) (with_newlines b),
  );
  text = simp (text, split t.text then.forth, append_assoc, first.whole whole, then.text, printed-append);
  whole = λ is. simp (
    ends,
    split t.end (omega (arith, then.forth, then.before)),
    first.whole whole,
    then.whole
        (omega (arith, is, text, ends)),
    printed-append,
  );
  forth = omega (arith, text, then.forth, first.forth, first.before);
  before = omega (arith, text, ends, then.before);
}
  where
    split : (n : ℕ) → s.end ≤ n
        → slice_range buffer start n ≡ slice_range buffer start s.end ++ slice_range buffer s.end n
    split n high = slice_split buffer start s.end n (omega (arith, first.forth, first.before)) high

pub few_lines : (lines : List (List ℕ)) → length lines ≤ length (with_newlines lines)
few_lines [] = omega arith
few_lines (line ∷ lines) = omega (arith, few_lines lines, length-append line (10 ∷ with_newlines lines))

pub first_place : {R : Type 0} (entry : Option WaitingEntry) (text : OpenSource R) (limits : TakenCounters)
    (next : Option Stretch)
    → limits.lines + (text.source.end - text.source.start) ≤ LINES
    → limits.bytes + (text.source.end - text.source.start) ≤ BYTES
    → IfSome next (λ s. Reaches entry text.may_match text.source.buffer.items text.source.start text.source.end s)
    → IfSome next (λ s. (lines : List (List ℕ)) × IsStretchOf entry text s lines × HasRoomFor limits lines)
first_place entry text limits None few small found = tt
first_place entry text limits (Some s) few small found = grind (arith, few_lines)

text_lines-standing : (entry : Option WaitingEntry) (may_match : Bool) (lines : List (List ℕ)) (rest : List ℕ)
    → AllByRecursion (PassesThrough entry may_match) lines
    → cut_lines (with_newlines lines ++ rest) ≡ map line_with_newline lines ++ cut_lines rest
text_lines-standing entry may_match [] rest passing = refl
text_lines-standing entry may_match (line ∷ lines) rest passing =
    grind (arith, append_assoc, text_lines-full, text_lines-standing entry may_match lines rest passing.1)

pub numbered-append : (file number : ℕ) (a b : List CutLine)
    → numbered_lines file number (a ++ b) ≡ numbered_lines file number a ++ numbered_lines file (number + length a) b
numbered-append file number [] b = grind arith
numbered-append file number (line ∷ a) b = grind (arith, numbered-append file (number + 1) a b)

-- A stretch as a run.
pub run_of : (entry : Option WaitingEntry) (may_match : Bool) (buffer : List ℕ) (start : ℕ) (s : Stretch)
    (lines : List (List ℕ)) → IsStretch entry may_match buffer start s lines
    → IsRun entry may_match buffer start s lines
run_of entry may_match buffer start s lines is =
    record { passing = is.passing; lines = is.lines; in_place = is.in_place; size = is.size }

pub run_at : {R : Type 0} (entry : Option WaitingEntry) (slot : Option (OpenSource R)) (s : Stretch)
    (lines : List (List ℕ)) → IsStretchAt entry slot s lines → IsRunAt entry slot s lines
run_at entry None s lines is = absurd is
run_at entry (Some text) s lines is = record {
  is = run_of entry text.may_match text.source.buffer.items text.source.start s lines is.is;
  within = is.within;
}

-- A stretch has at least one line.
pub some_lines : {R : Type 0} (entry : Option WaitingEntry) (slot : Option (OpenSource R)) (s : Stretch)
    (lines : List (List ℕ)) → IsStretchAt entry slot s lines → 0 < length lines
some_lines entry None s lines is = absurd is
some_lines entry (Some text) s [] is = absurd (omega (
  arith,
  ap (λ (l : List ℕ). length l) is.is.text,
  length-append (slice_range text.source.buffer.items text.source.start s.text) (10 ∷ []),
))
some_lines entry (Some text) s (line ∷ lines) is = omega arith

pub run_joined : (entry : Option WaitingEntry) (may_match : Bool) (buffer : List ℕ) (start : ℕ) (s t u : Stretch)
    (a b : List (List ℕ)) → IsRun entry may_match buffer start s a → IsRun entry may_match buffer s.end t b
    → u.end ≡ t.end → u.lines ≡ s.lines + t.lines → IsRun entry may_match buffer start u (a ++ b)
run_joined entry may_match buffer start s t u a b first then ends lines = record {
  passing = passing-append entry may_match a b first.passing then.passing;
  lines = omega (arith, lines, first.lines, then.lines, length-append a b);
  in_place = simp (
    ends,
    slice_split buffer start s.end t.end (omega (arith, first.size)) (omega (arith, then.size)),
    first.in_place,
    then.in_place,
    standing-append,
  );
  size = omega (
    arith,
    ends,
    first.size,
    then.size,
    ap (λ (l : List ℕ). length l) (standing-append a b),
    length-append (with_newlines a) (with_newlines b),
  );
}

pub takes_lines : {R : Type 0} (entry : Option WaitingEntry) (text : OpenSource R) (s : Stretch) (lines : List (List ℕ))
    → IsRunOf entry text s lines → (left : R → List ℕ) → lines_at left (Some text) ≡ sources_next (Some text) lines
    ++ numbered_lines text.file.0 (text.line + s.lines + 1)
    (cut_lines (slice_range text.source.buffer.items s.end text.source.end ++ left text.source.reader.value))
takes_lines entry text s lines in_place left = simp (
  prefix,
  append_assoc,
  text_lines-standing entry text.may_match lines
      (after_them ++ unread) in_place.is.passing,
  numbered-append,
  count,
)
  where
    unread : List ℕ
    unread = left text.source.reader.value

    after_them : List ℕ
    after_them = slice_range text.source.buffer.items s.end text.source.end

    prefix : buffered text.source ≡ with_newlines lines ++ after_them
    prefix = slice_split text.source.buffer.items text.source.start s.end text.source.end
        (omega (arith, in_place.is.size)) in_place.within ∙ ap (λ (l : List ℕ). l ++ after_them) in_place.is.in_place

    count : text.line + 1 + length (map line_with_newline lines) ≡ text.line + s.lines + 1
    count = omega (arith, length-map lines line_with_newline, in_place.is.lines)
