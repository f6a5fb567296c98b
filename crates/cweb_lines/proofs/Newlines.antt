-- The first newline, and the first line.
use Rattle.cweb_lines.specs.declared.source.Source.{Source}
use Rattle.cweb_lines.proofs.Common.{◌≡◌, ◌≢◌, ◌≤◌, ◌<◌, ◌+◌, ◌-◌, ℕ, suc, true, false, List, [], ◌∷◌, ◌++◌, Option, Some, None, sym, ◌∙◌, ap, take, drop, get_or, length, subst, arith, take-append-drop, append_assoc, length-append, drop-append-add, take-append_seam, drop_more, get_or-take, length-take, drop-take, drop-drop, nat_tests, IsFirstByte, is_byte, HasNoNewline, SplitsAt, IsNewlineAt, CutLine, cut_lines, onto_first, IsLongerThan, TakesRawLine, TakesFromBuffer, Full, buffered}

pub no_newline : (xs : List ℕ) → ((k : ℕ) → k < length xs → get_or xs k 0 ≢ 10) → HasNoNewline xs
no_newline [] none = tt
no_newline (x ∷ xs) none = (none 0 (omega arith), no_newline xs (λ k lt. none (suc k) (omega arith)))

pub newline_at-memchr : (xs : List ℕ) (r : Option ℕ) → IsFirstByte (is_byte 10) xs r → IsNewlineAt xs r
newline_at-memchr xs None none = no_newline xs (λ k lt is. none k (omega arith) lt (ap (is_byte 10) is))
newline_at-memchr xs (Some at) first =
    grind (arith, nat_tests, take-append-drop, drop_more, no_newline, length-take, get_or-take)

no_more : (b : ℕ) → b ≢ 10 → (text rest : List ℕ) → cut_lines (b ∷ text) ≡ onto_first b (cut_lines text)
no_more b not text rest = grind (arith, nat_tests)

pub text_lines-full : (line rest : List ℕ) → HasNoNewline line →
    cut_lines (line ++ 10 ∷ rest) ≡ record { bytes = line; size = length line + 1 } ∷ cut_lines rest
text_lines-full [] rest none = ap (λ n. record { bytes = []; size = n } ∷ cut_lines rest) (omega arith)
text_lines-full (b ∷ line) rest none = grind (arith, no_more, text_lines-full line rest none.1)

pub text_lines-last : (line : List ℕ) → HasNoNewline line → 0 < length line →
    cut_lines line ≡ record { bytes = line; size = length line } ∷ []
text_lines-last [] none some = absurd (omega arith)
text_lines-last (b ∷ []) none some = no_more b none.0 [] []
text_lines-last (b ∷ c ∷ line) none some = grind (arith, no_more, text_lines-last (c ∷ line) none.1 (omega arith))

pub no_newline-append : (xs ys : List ℕ) → HasNoNewline xs → HasNoNewline ys → HasNoNewline (xs ++ ys)
no_newline-append [] ys none_x none_y = none_y
no_newline-append (x ∷ xs) ys none_x none_y = (none_x.0, no_newline-append xs ys none_x.1 none_y)

pub longer : (limit : ℕ) (line prefix rest : List ℕ) → HasNoNewline line → HasNoNewline prefix →
    limit < length line + length prefix → IsLongerThan limit (line ++ (prefix ++ rest))
longer limit line prefix rest none_l none_f more = (
  line ++ prefix,
  rest,
  sym (append_assoc line prefix rest),
  no_newline-append line prefix none_l none_f,
  omega (arith, length-append line prefix),
)

-- The buffered bytes after the first newline.
pub after_newline : (buffer : List ℕ) (start end at : ℕ) → SplitsAt (take (end - start) (drop start buffer)) at
    → start ≤ end
    → take (end - start) (drop start buffer) ≡ take at (take (end - start) (drop start buffer))
    ++ 10 ∷ take (end - (start + (at + 1))) (drop (start + (at + 1)) buffer)
after_newline buffer start end at splits le =
    splits.split ∙ ap (λ (l : List ℕ). take at (take (end - start) (drop start buffer)) ++ 10 ∷ l) rest
  where
    near : at < end - start
    near = omega (arith, splits.within, length-take (end - start) (drop start buffer))

    count : end - start ≡ (at + 1) + (end - (start + (at + 1)))
    count = omega (arith, near)

    rest : drop (at + 1) (take (end - start) (drop start buffer)) ≡ take (end - (start + (at + 1)))
        (drop (start + (at + 1)) buffer)
    rest = ap (λ n. drop (at + 1) (take n (drop start buffer))) count
        ∙ drop-take (at + 1) (end - (start + (at + 1))) (drop start buffer)
        ∙ ap (λ (l : List ℕ). take (end - (start + (at + 1))) l) (drop-drop (at + 1) start buffer)

pub longer_more : (limit : ℕ) (text rest : List ℕ) → IsLongerThan limit text → IsLongerThan limit (text ++ rest)
longer_more limit text rest long =
    (long.0, long.1 ++ rest, simp (long.2, append_assoc), long.3, long.4)

pub taken_full : (all line old rest after new : List ℕ) → all ≡ line ++ (old ++ rest) → HasNoNewline line →
    TakesFromBuffer old line true after new → TakesRawLine all Full after (new ++ rest)
taken_full all line old rest after new is none takes = grind (arith, append_assoc, no_newline-append)

pub taken_more : (all line old rest after new : List ℕ) → all ≡ line ++ (old ++ rest)
    → HasNoNewline line → TakesFromBuffer old line false after new → (all ≡ after ++ (new ++ rest)) × HasNoNewline after
taken_more all line old rest after new is none takes = grind (arith, append_assoc, no_newline-append)

pub longer_first : (prefix rest : List ℕ) → HasNoNewline prefix → 0 < length prefix → (line : CutLine) ×
    (lines : List CutLine) × (cut_lines (prefix ++ rest) ≡ line ∷ lines) × (length prefix ≤ length line.bytes)
longer_first [] rest none some = absurd (omega arith)
longer_first (b ∷ []) rest none some = by (cut_lines rest) (no_more b none.0 rest [])
  where
    by : (lines : List CutLine) → cut_lines (b ∷ rest) ≡ onto_first b lines → (line : CutLine) ×
        (lines' : List CutLine) × (cut_lines (b ∷ rest) ≡ line ∷ lines') × (1 ≤ length line.bytes)
    by [] is = (record { bytes = b ∷ []; size = 1 }, [], is, omega arith)
    by (line ∷ lines) is = (record { bytes = b ∷ line.bytes; size = line.size + 1 }, lines, is, omega arith)
longer_first (b ∷ c ∷ prefix) rest none some =
    let later = longer_first (c ∷ prefix) rest none.1 (omega arith) in (
      record { bytes = b ∷ later.0.bytes; size = later.0.size + 1 },
      later.1,
      no_more b none.0 (c ∷ prefix ++ rest) [] ∙ ap (onto_first b) later.2,
      omega (arith, later.3),
    )

splits_at : (a b : List ℕ) → HasNoNewline a → SplitsAt (a ++ 10 ∷ b) (length a)
splits_at a b none = grind (arith, length-append, take-append_seam, drop-append-add)

-- The first newline in the rest after bytes that have none.
pub splits_after : (text prefix run after : List ℕ) (at : ℕ) → text ≡ prefix ++ (run ++ after) → HasNoNewline prefix
    → SplitsAt run at → SplitsAt text (length prefix + at)
splits_after text prefix run after at is none splits =
    subst (SplitsAt text) count (subst (λ (t : List ℕ). SplitsAt t (length before)) (sym whole)
    (splits_at before (drop (at + 1) run ++ after) (no_newline-append prefix (take at run) none splits.before)))
  where
    before : List ℕ
    before = prefix ++ take at run

    whole : text ≡ before ++ 10 ∷ (drop (at + 1) run ++ after)
    whole = is ∙ ap (λ (l : List ℕ). prefix ++ (l ++ after)) splits.split ∙ simp append_assoc

    count : length before ≡ length prefix + at
    count = omega (arith, length-append prefix (take at run), length-take at run, splits.within)

-- Nothing is buffered.
pub none_buffered : {R : Type 0} (source : Source R) → source.end ≤ source.start → HasNoNewline (buffered source)
none_buffered source past = grind arith
