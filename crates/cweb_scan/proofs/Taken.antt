-- Taking a line is taking its newline, with the bytes of a pending item, and its other bytes.
use Rattle.cweb_scan.proofs.Common.{◌≡◌, ℕ, drop, List, [], ◌∷◌, true, false, refl, Line, AtLineEnd, newline_prefixed, read_lines, ReaderModel, read_on, places, read_after, reader_at, TakesLineEnd, TakesBytes, arith}

pub AtLineEnd-further : (lines : List Line) → AtLineEnd (newline_prefixed lines)
AtLineEnd-further [] = tt
AtLineEnd-further (line ∷ lines) = refl

begun_after : (h : ReaderModel) (lines : List Line) → h.begun ≡ true
    → read_after h lines ≡ read_on h (places lines) (newline_prefixed lines)
begun_after h lines e = grind arith

fresh_after : (h : ReaderModel) (lines : List Line) → h.begun ≡ false → read_after h lines ≡ read_lines lines
fresh_after h lines e = grind arith

pub next_taken : (old mid new : ReaderModel) (line : Line) (n : ℕ) (lines : List Line)
    → old.begun ≡ true → TakesLineEnd line.place line.bytes n old mid → TakesBytes (drop n line.bytes) mid new
    → read_after new lines ≡ read_after old (line ∷ lines)
next_taken old mid new line n lines begun ended took = grind (arith, begun_after, AtLineEnd-further)

pub first_taken : (old mid new : ReaderModel) (line : Line) (lines : List Line) → old.begun ≡ false
    → mid ≡ reader_at line.place → TakesBytes line.bytes mid new → read_after new lines ≡ read_after old (line ∷ lines)
first_taken old mid new line lines fresh is took = grind (arith, begun_after, AtLineEnd-further, fresh_after)
