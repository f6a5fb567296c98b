-- A store has at most as many tokens, and as many bytes, as the web has bytes plus lines.
use Rattle.cweb_scan.proofs.Common.{◌≡◌, ◌≤◌, ℕ, List, [], ◌∷◌, ◌++◌, Option, Some, None, length, map, refl, arith, length-append, option_to_list, Line, Occurrence, Token, Word, Number, Literal, Verbatim, Punct, Part, all_tokens, Replacement, PartsSoFar, all_parts, finished, ScanState, leave, start_state, Reading, lex, newline_prefixed, read_lines, scanned, sum_over, one, spelling_size, occurrence_size, replacement_size, part_size, open_size, parts_size, token_number, stored_bytes, AddsAtMost, web_size, IsBounded, total-append}
use Rattle.cweb_store.specs.surface.Tokens.{occurrence_text, token_size}
use Rattle.cweb_store.specs.surface.Tokens as kept
use Rattle.cweb_scan.proofs.Adding.{adds, expected_some}
use Rattle.cweb_scan.proofs.Walked.{run-walks}
use Rattle.cweb_scan.proofs.Moves.{leave-walks}

further-size : (lines : List Line) → length (newline_prefixed lines) ≡ web_size lines
further-size [] = refl
further-size (line ∷ lines) = omega (arith, further-size lines, length-append line.bytes (newline_prefixed lines))

-- The measures over all parts at once.

total-tokens : (f : Token → ℕ) (ps : List Part) → sum_over f (all_tokens ps) ≡ sum_over (part_size f) ps
total-tokens f [] = refl
total-tokens f (p ∷ ps) = omega (arith, total-append f p.tokens (all_tokens ps), total-tokens f ps)

open-list : (f : Token → ℕ) (o : Option Part) → sum_over (part_size f) (option_to_list o) ≡ open_size f o
open-list f None = refl
open-list f (Some p) = omega arith

pub all-size : (f : Token → ℕ) (v : PartsSoFar) → sum_over f (all_tokens (all_parts v)) ≡ parts_size f v
all-size f v = grind (arith, total-tokens, total-append, open-list)

length-total : (ts : List Token) → length ts ≡ sum_over one ts
length-total [] = refl
length-total (t ∷ ts) = omega (arith, length-total ts)

-- The bytes of strings, as the store counts them.

token-bytes : (t : Token) → token_size t ≡ spelling_size t
token-bytes (Word b) = omega arith
token-bytes (Number b) = omega arith
token-bytes (Literal b) = omega arith
token-bytes (Verbatim b) = omega arith
token-bytes (Punct b) = omega arith
token-bytes _ = refl

tokens-bytes : (ts : List Token) → kept.total token_size ts ≡ sum_over spelling_size ts
tokens-bytes [] = refl
tokens-bytes (t ∷ ts) = omega (arith, token-bytes t, tokens-bytes ts)

occurrences-bytes : (os : List Occurrence) → kept.total length (map occurrence_text os) ≡ sum_over occurrence_size os
occurrences-bytes [] = refl
occurrences-bytes (o ∷ os) = omega (arith, occurrences-bytes os)

replacements-bytes : (rs : List Replacement)
    → kept.total length (map kept.replacement_bytes rs) ≡ sum_over replacement_size rs
replacements-bytes [] = refl
replacements-bytes (r ∷ rs) = omega (arith, replacements-bytes rs)

of_state : (s : ScanState) (n : ℕ) → token_number s.contents ≤ n
    → stored_bytes s.contents ≤ n → IsBounded (finished s.contents) n
of_state s n h k = grind (arith, length-total, all-size, tokens-bytes, occurrences-bytes, replacements-bytes)

pub bounded : (lines : List Line) → IsBounded (scanned lines).store (web_size lines)
bounded [] = of_state (leave (read_lines []).state) 0 (omega arith) (omega arith)
bounded (line ∷ lines) =
    let start : Reading = record { state = start_state line.place; later = map (λ l. l.place) lines } in
    let t = line.bytes ++ newline_prefixed lines in
    let s = (lex start t).state in
    let read_lines : AddsAtMost (length t) (length t) start.state s = run-walks adds start t in
    let left : AddsAtMost 1 0 s (leave s) = leave-walks adds (lex start t) in
    let size = length-append line.bytes (newline_prefixed lines) in
    of_state (leave s) (web_size (line ∷ lines))
    (omega (arith, read_lines.tokens_are, left.tokens_are, expected_some (leave s).context, size, further-size lines))
    (omega (arith, read_lines.bytes_are, left.bytes_are, size, further-size lines))
