-- Trimmed lines, and what taking a line leaves.
use Rattle.cweb_lines.proofs.Common.{Bool, ◌≡◌, ◌≢◌, ◌+◌, ◌≤◌, ℕ, true, false, cond, List, [], ◌∷◌, ◌++◌, refl, sym, ◌∙◌, ap, subst, arith, ◌<◌, length, get_or, take, Some, HasNoNewline, cut_lines, TakesRawLine, IsLongerThan, LINE_LENGTH, TooLong, Full, Stop, ◌⊎◌, FileId, SourceLine, trimmed, before_blanks, is_blank, numbered_lines, IsOneLine, TakenCountersModel, buffered, StopsFor, StopsReading, OpenSource, LINES, BYTES, LineFault, LineTooLong, TooMuchText}
use Rattle.std.proofs.lemmas.List.{take_more}
use Rattle.cweb_lines.specs.inner.OpenSources.{TakesNextLine, FirstStops, NeedsRead, newline_bytes, stop_for}
use Rattle.cweb_lines.specs.declared.source.LineFault.TheVariants.{Read, Memory as NoMemory}
use Rattle.cweb_lines.specs.declared.source.LineTermination.{LineTermination}
use Rattle.cweb_lines.specs.declared.source.LineTermination.TheVariants.{Last, Ended}
use Rattle.cweb_lines.proofs.Newlines.{text_lines-full, text_lines-last, longer_first}

pub trimmed-blank : (xs : List ℕ) (b : ℕ) → is_blank b ≡ true → trimmed (xs ++ b ∷ []) ≡ trimmed xs
trimmed-blank [] b blank = ap (λ t. cond t [] (b ∷ [])) blank
trimmed-blank (x ∷ xs) b blank = ap (before_blanks x) (trimmed-blank xs b blank)

pub trimmed-byte : (xs : List ℕ) (b : ℕ) → is_blank b ≡ false → trimmed (xs ++ b ∷ []) ≡ xs ++ b ∷ []
trimmed-byte [] b other = ap (λ t. cond t [] (b ∷ [])) other
trimmed-byte (x ∷ []) b other = ap (before_blanks x) (trimmed-byte [] b other)
trimmed-byte (x ∷ y ∷ xs) b other = ap (before_blanks x) (trimmed-byte (y ∷ xs) b other)

abbrev pub source_line : ℕ → ℕ → List ℕ → LineTermination → SourceLine
source_line file number bytes taken = record {
  line = record { bytes = trimmed bytes; place = record { file = record { 0 = file }; line = number } };
  length = length bytes;
  size = length bytes + newline_bytes taken;
}

takes_line : (taken : LineTermination) (old new bytes : List ℕ) (file number : ℕ) → taken ≢ Ended
    → TakesRawLine old taken bytes new
    → numbered_lines file number (cut_lines old) ≡ source_line file number bytes taken
    ∷ numbered_lines file (number + 1)
    (cut_lines new)
takes_line Ended old new bytes file number not takes = absurd (not refl)
takes_line Last old new bytes file number not takes = grind (arith, text_lines-last)
takes_line Full old new bytes file number not takes = grind (arith, text_lines-full)

pub takes_first : (bytes raw old new : List ℕ) (file number depth : ℕ) (may_match : Bool) (taken : LineTermination)
    (before after : TakenCountersModel) → taken ≢ Ended → TakesRawLine old taken raw new → bytes ≡ trimmed raw
    → length raw ≤ LINE_LENGTH
    → after.lines ≡ before.lines + 1 → after.bytes ≡ before.bytes + (length raw + newline_bytes taken)
    → TakesNextLine (numbered_lines file number (cut_lines old)) (Some
    (record { place = record { file = record { 0 = file }; line = number }; depth = depth; may_match = may_match }))
    bytes (numbered_lines file (number + 1) (cut_lines new)) before after
takes_first bytes raw old new file number depth may_match taken before after not takes is short lines size = (
  record {
    line = source_line file number raw taken;
    is = grind arith;
    short = short;
    lines = lines;
    bytes_are = size;
  },
  takes_line taken old new raw file number not takes,
)

pub first_too_long : (text : List ℕ) (file : FileId) (number : ℕ) (count : TakenCountersModel)
    → IsLongerThan LINE_LENGTH text
    → FirstStops (LineTooLong file) count (numbered_lines file.0 number (cut_lines text))
first_too_long text file number count long =
    let first = longer_first long.0 long.1 long.3 (omega (arith, long.4)) in
    record {
      line = record {
        line = record { bytes = trimmed first.0.bytes; place = record { file = file; line = number } };
        length = length first.0.bytes;
        size = first.0.size;
      };
      rest = numbered_lines file.0 (number + 1) first.1;
      first = ap (λ (t : List ℕ). numbered_lines file.0 number (cut_lines t)) long.2
          ∙ ap (numbered_lines file.0 number) first.2;
      why = (refl, omega (arith, long.4, first.3));
    }

pub line_stops : (fault : LineFault) (stop : Stop) (text : List ℕ) (file : FileId) (number : ℕ)
    (count : TakenCountersModel)
    → stop ≡ stop_for fault file → (fault ≡ TooLong → IsLongerThan LINE_LENGTH text)
    → StopsFor (FirstStops stop count (numbered_lines file.0 number (cut_lines text))) stop
line_stops Read stop text file number count is long = grind arith
line_stops TooLong stop text file number count is long = grind (arith, first_too_long)
line_stops NoMemory stop text file number count is long = grind arith

pub line_reads : (fault : LineFault) (stop : Stop) (file : FileId) → stop ≡ stop_for fault file → StopsReading stop
line_reads Read stop file is = subst StopsReading (sym is) tt
line_reads _ stop file is = subst StopsReading (sym is) tt

pub line_needs : {R : Type 0} (fault : LineFault) (stop : Stop) (text : OpenSource R) → stop ≡ stop_for fault text.file
    → (fault ≡ Read → HasNoNewline (buffered text.source)) → NeedsRead (Some text) stop
line_needs Read stop text is clean = subst (NeedsRead (Some text)) (sym is) (refl, clean refl)
line_needs _ stop text is clean = subst (NeedsRead (Some text)) (sym is) tt

pub first_passes : (stop : Stop) (taken : LineTermination) (old new bytes : List ℕ) (file number : ℕ)
    (count : TakenCountersModel)
    → taken ≢ Ended → TakesRawLine old taken bytes new → length bytes ≤ LINE_LENGTH
    → stop ≡ TooMuchText → (count.lines ≡ LINES) ⊎ (BYTES < count.bytes + (length bytes + newline_bytes taken))
    → StopsFor (FirstStops stop count (numbered_lines file number (cut_lines old))) stop
first_passes stop taken old new bytes file number count not takes short is passes =
    subst (λ s. StopsFor (FirstStops s count (numbered_lines file number (cut_lines old))) s) (sym is) (record {
      line = source_line file number bytes taken;
      rest = numbered_lines file (number + 1) (cut_lines new);
      first = takes_line taken old new bytes file number not takes;
      why = record { passes = passes; short = short };
    })

-- Whether the last byte of a prefix is a blank decides whether trimming drops it.
pub trims_more : (xs : List ℕ) (n : ℕ) → n < length xs → is_blank (get_or xs n 0) ≡ true →
    trimmed (take n xs) ≡ trimmed (take (n + 1) xs)
trims_more xs n within blank = sym (ap trimmed (take_more xs n 0 within)
    ∙ trimmed-blank (take n xs) (get_or xs n 0) blank)

pub trims_all : (xs : List ℕ) (n : ℕ) → n < length xs → is_blank (get_or xs n 0) ≡ false →
    trimmed (take (n + 1) xs) ≡ take (n + 1) xs
trims_all xs n within other =
    let split = take_more xs n 0 within in
    ap trimmed split ∙ trimmed-byte (take n xs) (get_or xs n 0) other ∙ sym split

pub before_blanks-clean : (b : ℕ) (xs : List ℕ) → b ≢ 10 → HasNoNewline xs → HasNoNewline (before_blanks b xs)
before_blanks-clean b [] other clean = grind arith
before_blanks-clean b (x ∷ xs) other clean = (other, clean)

pub trimmed-clean : (xs : List ℕ) → HasNoNewline xs → HasNoNewline (trimmed xs)
trimmed-clean [] clean = tt
trimmed-clean (b ∷ xs) clean = before_blanks-clean b (trimmed xs) clean.0 (trimmed-clean xs clean.1)

before_blanks-length : (b : ℕ) (xs : List ℕ) → length (before_blanks b xs) ≤ 1 + length xs
before_blanks-length b [] = grind arith
before_blanks-length b (x ∷ xs) = omega arith

pub trimmed-length : (xs : List ℕ) → length (trimmed xs) ≤ length xs
trimmed-length [] = omega arith
trimmed-length (b ∷ xs) = omega (arith, before_blanks-length b (trimmed xs), trimmed-length xs)

pub trimmed-line : (xs : List ℕ) → HasNoNewline xs → length xs ≤ LINE_LENGTH → IsOneLine (trimmed xs)
trimmed-line xs clean short = record { clean = trimmed-clean xs clean; short = omega (arith, short, trimmed-length xs) }
