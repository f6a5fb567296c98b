-- A merge that breaks a limit is not within the limits.
use Rattle.cweb_tools.proofs.Common.{◌≡◌, ◌≤◌, ◌<◌, ◌+◌, ◌⊎◌, inl, inr, List, [], ◌∷◌, ◌++◌, refl, sym, ◌∙◌, ap, subst, arith, emitted_lines, length, length-append, ℕ, SourceLine, Event, took, SoFar, Line, BreaksLimit, counts_of, StopsAfterLines, begun_with, AreShort, IsWithinLimits, taken_lines, LINE_LENGTH, LINES, BYTES, Stop, LineTooLong, TooMuchText}
use Rattle.cweb_lines.specs.OpenSources.{RefusesLine, TakenCountersModel}
use Rattle.cweb_lines.specs.Events.{size_of_lines}
use Rattle.cweb_lines.proofs.EmittedLinesAddUp.{size-append, taken-append}

-- Each taken line is within the limit of its length.
short_at : (before after : List SourceLine) (line : SourceLine) → AreShort (before ++ line ∷ after) →
    line.length ≤ LINE_LENGTH
short_at [] after line short = short.0
short_at (l ∷ before) after line short = short_at before after line short.1

-- If a limit stops reading, the next line breaks it.
abbrev pub NextBreaks : Stop → List Event → List Event → Type 0
NextBreaks (LineTooLong file) earlier later = BreaksLimit (LineTooLong file) earlier later
NextBreaks TooMuchText earlier later = BreaksLimit TooMuchText earlier later
NextBreaks stop earlier later = Unit {0}

next_breaks : (stop : Stop) {earlier later : List Event} → BreaksLimit stop earlier later
    → NextBreaks stop earlier later
next_breaks (LineTooLong file) b = b
next_breaks TooMuchText b = b
next_breaks stop b = tt

-- The events before a stop of reading, which emit these lines, and those after it.
pub record CutAt (stop : Stop) (lines : List Line) (events : List Event) : Type 0 where
  pub earlier : List Event
  pub later : List Event
  pub whole : events ≡ earlier ++ later
  pub emits : emitted_lines earlier ≡ lines
  pub next : NextBreaks stop earlier later

-- A merge that begins with these files comes to a line that breaks a limit.
module _ {stop : Stop} {first : List (List ℕ)} {emitted : List Line} {old new : SoFar} {events : List Event}
    (began : old ≡ begun_with first) (few : new.count.lines ≤ LINES) (small : new.count.bytes ≤ BYTES)
    (b : StopsAfterLines emitted stop old new events) where
  lines_are : new.count.lines ≡ length (taken_lines b.yields.events)
  lines_are = omega (arith, b.yields.lines_are, ap (λ (s : SoFar). s.count.lines) began)

  bytes_are : new.count.bytes ≡ size_of_lines (taken_lines b.yields.events)
  bytes_are = omega (arith, b.yields.bytes_are, ap (λ (s : SoFar). s.count.bytes) began)

  counts : new.count ≡ counts_of (taken_lines b.yields.events)
  counts i = record { lines = lines_are i; bytes = bytes_are i }

  -- The events before that line, and the rest.
  pub cut_at_limit : CutAt stop emitted events
  cut_at_limit = grind (arith, next_breaks, lines_are, bytes_are, counts)

module _ {stop : Stop} {events earlier later : List Event} (whole : events ≡ earlier ++ later)
    (b : BreaksLimit stop earlier later) where
  lines_whole : taken_lines events ≡ taken_lines earlier ++ b.line ∷ taken_lines b.more
  lines_whole = grind (arith, taken-append)

  long : LINE_LENGTH < b.line.length → AreShort (taken_lines events) → ⊥
  long longer short = grind (arith, short_at, lines_whole)

  lines_all : length (taken_lines events) ≡ length (taken_lines earlier) + (1 + length (taken_lines b.more))
  lines_all = grind (arith, lines_whole, length-append)

  bytes_all : size_of_lines (taken_lines events)
      ≡ size_of_lines (taken_lines earlier) + (b.line.size + size_of_lines (taken_lines b.more))
  bytes_all = ap size_of_lines lines_whole ∙ size-append (taken_lines earlier) (b.line ∷ taken_lines b.more)

  much : (length (taken_lines earlier) ≡ LINES) ⊎ (BYTES < size_of_lines (taken_lines earlier) + b.line.size)
      → IsWithinLimits (taken_lines events) → ⊥
  much (inl full) within = omega (arith, full, within.few, lines_all)
  much (inr larger) within = omega (arith, larger, within.small, bytes_all)

pub beyond : (stop : Stop) {events earlier later : List Event} → events ≡ earlier ++ later
    → BreaksLimit stop earlier later → IsWithinLimits (taken_lines events) → ⊥
beyond (LineTooLong file) whole b within = long whole b b.why.1 within.short
beyond TooMuchText whole b within = much whole b b.why.passes within
beyond stop whole b within = absurd b.why

-- Where two lists of events are equal, a line of one is the same line of the other, or it comes before or after that.
first_only : (a b : List Event) (x y : SourceLine) (s t : List Event) → a ++ took x ∷ s ≡ b ++ took y ∷ t
    → ((a ≡ b) × (x ≡ y)) ⊎ (((more : List Event) × (b ≡ a ++ took x ∷ more))
    ⊎ ((more : List Event) × (a ≡ b ++ took y ∷ more)))
first_only [] [] x y s t is = inl (refl, cc)
first_only [] (e ∷ b) x y s t is = inr (inl (b, cc))
first_only (e ∷ a) [] x y s t is = inr (inr (a, cc))
first_only (e ∷ a) (f ∷ b) x y s t is = grind (arith, first_only a b x y s t (cc), inl, inr)

refuses_only : (stop other : Stop) (count : TakenCountersModel) (line : SourceLine) → RefusesLine stop count line
    → RefusesLine other count line → stop ≡ other
refuses_only (LineTooLong file) (LineTooLong file') count line a b = ap LineTooLong (sym a.0 ∙ b.0)
refuses_only (LineTooLong file) TooMuchText count line a b = absurd (omega (arith, a.1, b.short))
refuses_only TooMuchText (LineTooLong file) count line a b = absurd (omega (arith, b.1, a.short))
refuses_only TooMuchText TooMuchText count line a b = refl
refuses_only (LineTooLong file) other count line a b = absurd b
refuses_only TooMuchText other count line a b = absurd b
refuses_only stop other count line a b = absurd a

-- Only one limit can be named.
module _ (stop other : Stop) {events earlier later earlier' later' : List Event} (whole : events ≡ earlier ++ later)
    (a : BreaksLimit stop earlier later) (whole' : events ≡ earlier' ++ later')
    (b : BreaksLimit other earlier' later') where
  same_events : earlier ++ took a.line ∷ a.more ≡ earlier' ++ took b.line ∷ b.more
  same_events = grind arith

  pub limit_only : stop ≡ other
  limit_only = by (first_only earlier earlier' a.line b.line a.more b.more same_events)
    where
      by : ((earlier ≡ earlier') × (a.line ≡ b.line))
          ⊎ (((more : List Event) × (earlier' ≡ earlier ++ took a.line ∷ more))
          ⊎ ((more : List Event) × (earlier ≡ earlier' ++ took b.line ∷ more))) → stop ≡ other
      by (inl same) = refuses_only stop other (counts_of (taken_lines earlier')) b.line
          (subst (λ (es : List Event). RefusesLine stop (counts_of (taken_lines es)) b.line) same.0
          (subst (λ (l : SourceLine). RefusesLine stop (counts_of (taken_lines earlier)) l) same.1 a.why)) b.why
      by (inr (inl after)) = absurd (beyond stop after.1
          (record { line = a.line; more = after.0; next = refl; within = a.within; why = a.why }) b.within)
      by (inr (inr after)) = absurd (beyond other after.1
          (record { line = b.line; more = after.0; next = refl; within = b.within; why = b.why }) a.within)
