-- The law of blanks, by induction on the tokens.
use Rattle.cweb_tools.proofs.Common.{◌≡◌, ℕ, Bool, true, false, cond, not, List, [], ◌∷◌, ◌++◌, Option, Some, None, All, refl, ap, ◌∙◌, append_assoc, codes, if◌then◌else◌, nat_le, decimal, list_all, flat_map-append, All-head, All-tail, list_all-append, Token, Word, Number, Literal, Punct, Blank, Newline, Join, Head, Tail, first_is, is_quiet, Reading, InPlainC, HasReadTokens, IsReadAs, ReadsAlone, significant, is_insignificant, doubled, at_doubled, is_hash, spelling_of, continues_token, Setting, print_after, file_token_bytes, word_bytes, without_joined_layout, sep, are_apart, IsPlain, Spacing, is_ascii, and_parts, and_from, arith}
use Rattle.cweb_rules.proofs.Joins.{unlike}
use Rattle.cweb_scan.specs.Lexemes.{lex}
use Rattle.cweb_scan.proofs.Gaps.{one_more}
use Rattle.cweb_scan.proofs.PlainStates.{nothing, and_then, no_directive}
use Rattle.cweb_scan.proofs.PlainTokens.{newline_read, comment_read, comment_of, token_read, quiet_decimal}
use Rattle.cweb_tools.proofs.SpacingStarts.{First, first_of, joins, operators_join}
use Rattle.cweb_tools.proofs.SpacingSeam.{seam, blank_after}

ascii_text : (s : Setting) (b : List ℕ) → is_ascii b ≡ true → word_bytes s.replaced b ≡ b
ascii_text s [] h = refl
ascii_text s (c ∷ b) h = grind (arith, and_parts, ascii_text s b (and_parts (not (nat_le 128 c)) (is_ascii b) h).1)

quiet_doubled : (x : List ℕ) → list_all is_quiet x ≡ true → doubled x ≡ x
quiet_doubled [] h = refl
quiet_doubled (b ∷ x) h =
    grind (arith, and_parts, unlike, quiet_doubled x (and_parts (is_quiet b) (list_all is_quiet x) h).1)

head_text : (n : ℕ) → doubled (47 ∷ 42 ∷ decimal n ++ 58 ∷ 42 ∷ 47 ∷ []) ≡ comment_of (decimal n ++ 58 ∷ [])
head_text n = grind (arith, flat_map-append, quiet_doubled, quiet_decimal, append_assoc)

tail_text : (n : ℕ) → doubled (47 ∷ 42 ∷ 58 ∷ decimal n ++ 42 ∷ 47 ∷ []) ≡ comment_of (58 ∷ decimal n)
tail_text n = grind (arith, flat_map-append, quiet_doubled, quiet_decimal)

quiet_head : (n : ℕ) → list_all is_quiet (decimal n ++ 58 ∷ []) ≡ true
quiet_head n = grind (arith, list_all-append, and_from, quiet_decimal)

-- The first byte of a printed token.
text_first : (s : Setting) (left : Option Token) (u : Token) → IsPlain u → First u (doubled (file_token_bytes s left u))
text_first s left Blank h = record { byte = 32; rest = []; is = refl; starts = refl }
text_first s left Newline h = record { byte = 10; rest = []; is = refl; starts = refl }
text_first s left (Head n) h = grind (arith, head_text)
text_first s left (Tail n) h = grind (arith, tail_text)
text_first s left (Word b) h = rw (ascii_text s b h.0) (first_of h.1)
text_first s left (Number b) h = first_of h
text_first s left (Literal b) h = first_of h
text_first s left (Punct b) h = first_of h.2
text_first s left _ h = absurd h

pub run_blank : (r : Reading) (x : List ℕ) → InPlainC r.state → lex r (32 ∷ x) ≡ lex r x
run_blank r x h = one_more r 32 x h.in_c (no_directive r.state h) refl

solid_read : {r : Reading} {u : Token} {rest : List ℕ} → ReadsAlone u → is_hash u ≡ false → InPlainC r.state
    → first_is (continues_token joins u) rest ≡ false → IsReadAs r (doubled (spelling_of u)) rest (significant (u ∷ []))
solid_read {r} {u} {rest} h plain in_plain goes = token_read joins r u rest operators_join in_plain h plain goes

-- Reading a printed token, if the next byte can't continue it.
step : (s : Setting) (left : Option Token) {r : Reading} (u : Token) {rest : List ℕ} → IsPlain u → InPlainC r.state
    → first_is (continues_token joins u) rest ≡ false
    → IsReadAs r (doubled (file_token_bytes s left u)) rest (significant (u ∷ []))
step s left {r} Blank {rest} h plain goes =
    record { next = r; goes_on = run_blank r rest plain; read = nothing r.state plain }
step s left {r} Newline {rest} h plain goes = newline_read r rest plain
step s left {r} (Head n) {rest} h plain goes = grind (arith, head_text, comment_read, quiet_head)
step s left {r} (Tail n) {rest} h plain goes =
    rw (tail_text n) (comment_read r (58 ∷ decimal n) rest (quiet_decimal n) plain)
step s left {r} (Word b) {rest} h plain goes = rw (ascii_text s b h.0) (solid_read h.1 refl plain goes)
step s left (Number b) h plain goes = solid_read h refl plain goes
step s left (Literal b) h plain goes = solid_read h refl plain goes
step s left (Punct b) h plain goes = solid_read h.2 h.0 plain goes
step s left _ h plain goes = absurd h

abbrev Plains : List Token → Type 0
Plains [] = Unit {0}
Plains (t ∷ ts) = IsPlain t × Plains ts

abbrev printed : Setting → Option Token → List Token → List ℕ
printed s left ts = doubled (print_after (file_token_bytes s) left ts)

abbrev blank_if : Bool → List ℕ
blank_if v = if v then codes " " else []

seam_after : (s : Setting) (u : Token) (ts : List Token) → Plains ts
    → first_is (continues_token joins u) (printed s (Some u) ts) ≡ false
seam_after s u [] h = refl
seam_after s u (v ∷ ts) h =
    let text = file_token_bytes s (Some u) v in
    let more = print_after (file_token_bytes s) (Some v) ts in
    let f = text_first s (Some u) v h.0 in
    elim (are_apart u v)
    as (λ w. are_apart u v ≡ w → first_is (continues_token joins u) (doubled ((blank_if w ++ text) ++ more)) ≡ false) [
      | true ↦ λ e. blank_after u
      | false ↦ λ e.
          ap (first_is (continues_token joins u)) (flat_map-append at_doubled text more)
          ∙ ap (λ d. first_is (continues_token joins u) (d ++ doubled more)) f.is ∙ seam u v f.byte e f.starts
    ] refl

blank_before : (r : Reading) (v : Bool) (text more : List ℕ) → InPlainC r.state
    → lex r (doubled ((blank_if v ++ text) ++ more)) ≡ lex r (doubled text ++ doubled more)
blank_before r true text more h = grind (arith, run_blank, flat_map-append)
blank_before r false text more h = ap (lex r) (flat_map-append at_doubled text more)

after_sep : (r : Reading) (left : Option Token) (t : Token) (text more : List ℕ) → InPlainC r.state
    → lex r (doubled ((sep left t ++ text) ++ more)) ≡ lex r (doubled text ++ doubled more)
after_sep r None t text more h = blank_before r false text more h
after_sep r (Some l) t text more h = blank_before r (are_apart l t) text more h

one_first : (v : Bool) (t : Token) (us : List Token) → cond v (t ∷ []) [] ++ us ≡ cond v (t ∷ us) us
one_first true t us = refl
one_first false t us = refl

solid_first : (t : Token) (ts : List Token) → significant (t ∷ []) ++ significant ts ≡ significant (t ∷ ts)
solid_first t ts = one_first (not (is_insignificant t)) t (significant ts)

law_from : (s : Setting) (left : Option Token) (ts : List Token) → Plains ts → (r : Reading)
    → InPlainC r.state → HasReadTokens r.state (lex r (printed s left ts)).state (significant ts)
law_from s left [] h r plain = nothing r.state plain
law_from s left (t ∷ ts) h r plain =
    let text = file_token_bytes s left t in
    let more = print_after (file_token_bytes s) (Some t) ts in
    let one = step s left t h.0 plain (seam_after s t ts h.1) in
    let rest = law_from s (Some t) ts h.1 one.next one.read.plain in
    let whole =
    and_then r.state one.next.state (lex one.next (doubled more)).state (significant (t ∷ []))
    (significant ts) one.read rest in
    let is : lex r (printed s left (t ∷ ts)) ≡ lex one.next (doubled more) =
    after_sep r left t text more plain ∙ one.goes_on in
    rw is (rw (← (solid_first t ts)) whole)

-- Without a Join no layout is dropped.
all_kept : (ts : List Token) → Plains ts → without_joined_layout false ts ≡ ts
all_kept [] h = refl
all_kept (Join ∷ ts) h = absurd h.0
all_kept (t ∷ ts) h = ap (λ us. t ∷ us) (all_kept ts h.1)

plains : (ts : List Token) → All IsPlain ts → Plains ts
plains [] h = tt
plains (t ∷ ts) h = (All-head IsPlain t ts h, plains ts (All-tail IsPlain t ts h))

pub law : Spacing
law s ts h r plain =
    let p = plains ts h in
    rw (all_kept ts p) (law_from s None ts p r plain)
