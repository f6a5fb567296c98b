-- Literals that are open at the end of their line.
use Rattle.cweb_scan.proofs.Common.{ℕ, ◌≡◌, ◌≤◌, ◌+◌, Bool, true, false, List, [], ◌∷◌, ◌++◌, length, drop, refl, ap, ◌∙◌, arith, codes, length-drop, drop-append-le, begins, look_in_literal, look_in_raw, reach, reach_size, raw_match, literal_match, literal_prefix, quote_of, raw_prefix, starts_raw, starts_literal, RuleMatch, Quoted, End, Cut, Open, AtLineEnd, IsLocal, is_unclosed, opens_in, c_opens, Context, Macro, CText, enter_in, names_include, ScanState, in_open_part, IsPast, with_line, in_c, and_parts, Effect, c_match, rule_match}
use Rattle.cweb_rules.specs.inner.LineItems.{opens_raw, opens_literal, goes_on, raw_opener_len, raw_closer_of}
use Rattle.cweb_rules.proofs.LineDelimiters.{raw_prefix-line, delimiter-line, sign-fits, closing_sign-in_line}
use Rattle.cweb_rules.proofs.TokenSizes.{has_delimiter-size}
use Rattle.cweb_rules.proofs.LineLiterals.{literal_prefix-line}
use Rattle.cweb_rules.proofs.TokenSizes.{is_quoted-size}
use Rattle.cweb_rules.proofs.Looks.{raw-local, raw-units}
use Rattle.cweb_rules.proofs.Seams.{drop_line}
use Rattle.cweb_scan.proofs.CrossedLineEnds.{CrossesNewline, crosses, literal_crosses}
use Rattle.cweb_scan.proofs.PendingItems.{IsNext, over, over_ended, with_line-is}
use Rattle.cweb_rules.proofs.OverLineEnds.{goes_on_is}
use Rattle.cweb_scan.proofs.LiteralOpeners.{c_prefix_raw, c_prefix_literal, literal_first, enter_quoted}
use Rattle.cweb_scan.proofs.OpeningSteps.{not_back}

-- Its opener and closer are in its first line.
pub raw_same : (w more : List ℕ) → AtLineEnd more → starts_raw w ≡ true
    → (raw_opener_len (w ++ more) ≡ raw_opener_len w) × (raw_closer_of (w ++ more) ≡ raw_closer_of w)
raw_same w more e starts = grind (arith, and_parts, sign-fits, raw_prefix-line, drop-append-le, delimiter-line)

pub raw_fits : (w : List ℕ) → starts_raw w ≡ true → raw_opener_len w ≤ length w
raw_fits w starts = grind (arith, and_parts, sign-fits, has_delimiter-size, length-drop)

-- A literal in a macro or in C text.
opens_first : (c : Context) (b : ℕ) (t : List ℕ) (v : Bool) → in_open_part c ≡ true
    → begins (codes "\\") (b ∷ t) ≡ false → ((effect : ℕ → Effect) → c_opens effect (b ∷ t) ≡ v)
    → opens_in c (b ∷ t) ≡ v
opens_first Macro b t v h g k = grind arith
opens_first CText b t v h g k = k in_c
opens_first _ b t v h g k = cc

is_quoted : (s : ScanState) (b : ℕ) (t : List ℕ) (us : List (List ℕ)) (how : End) (n : ℕ) (opens : Bool)
    → in_open_part s.context ≡ true → begins (codes "\\") (b ∷ t) ≡ false
    → ((effect : ℕ → Effect) (takes includes : Bool) → c_match effect takes includes (b ∷ t)
    ≡ rule_match (Quoted us how) n) → ((effect : ℕ → Effect) → c_opens effect (b ∷ t) ≡ opens)
    → IsNext s (b ∷ t) (rule_match (Quoted us how) n) opens
is_quoted s b t us how n opens c back rule none =
    let is = literal_first s.context (names_include s) b t (rule_match (Quoted us how) n) c back rule in record {
      is = is;
      opens_is = opens_first s.context b t opens c back none;
      stays = ap (λ (v : RuleMatch). enter_in s.context v.kind s) is ∙ enter_quoted s.context us how s c;
    }

pub is_raw : (s : ScanState) (u : List ℕ) → in_open_part s.context ≡ true → IsPast u → starts_raw u ≡ true
    → IsNext s u (raw_match u) (opens_raw u)
is_raw s [] c past starts = let wrong : false ≡ true = starts in cc
is_raw s (b ∷ t) c past starts = is_quoted s b t _ _ _ (opens_raw (b ∷ t)) c (not_back starts_raw b t refl starts)
    (λ effect takes includes. c_prefix_raw effect takes includes (b ∷ t) past starts)
    (λ effect. rw (past.blank, past.line_end, past.comment, past.line_comment, past.section, past.code, starts) refl)

pub is_literal : (s : ScanState) (u : List ℕ) → in_open_part s.context ≡ true → IsPast u → starts_raw u ≡ false
    → starts_literal u ≡ true → IsNext s u (literal_match u) (opens_literal u)
is_literal s [] c past raw starts = let wrong : false ≡ true = starts in cc
is_literal s (b ∷ t) c past raw starts = is_quoted s b t _ _ _ (opens_literal (b ∷ t)) c
    (not_back starts_literal b t refl starts)
    (λ effect takes includes. c_prefix_literal effect takes includes (b ∷ t) past raw starts)
    (λ effect. rw (past.blank, past.line_end, past.comment, past.line_comment, past.section, past.code, raw, starts)
    refl)

raw_local : (w more : List ℕ) → AtLineEnd more → IsLocal (look_in_raw (raw_closer_of w)) more
raw_local w more e = raw-local (raw_closer_of w) more (closing_sign-in_line (drop (raw_prefix w + 2) w)) e

raw_crosses : (w : List ℕ) → CrossesNewline (look_in_raw (raw_closer_of w))
raw_crosses w = crosses (look_in_raw (raw_closer_of w)) (raw-units (raw_closer_of w)) (raw_local w) newline
  where
    newline : (line : List ℕ) → look_in_raw (raw_closer_of w) (10 ∷ line) ≡ look_in_raw (raw_closer_of w) (10 ∷ [])
    newline [] = refl
    newline (b ∷ line) = refl

-- As the code sees it.
pub raw_goes_on : (w t : List ℕ)
    → goes_on (look_in_raw (raw_closer_of w)) t ≡ is_unclosed (reach (look_in_raw (raw_closer_of w)) Open t).how
raw_goes_on w t =
    goes_on_is (look_in_raw (raw_closer_of w)) t (raw-units (raw_closer_of w)) (raw_local w (10 ∷ []) refl) refl

pub raw_over : (w line : List ℕ) → starts_raw w ≡ true → opens_raw w ≡ true
    → (opens_raw (with_line w line) ≡ goes_on (look_in_raw (raw_closer_of w)) line)
    × ((raw_match (with_line w line)).size
    ≡ length w + 1 + reach_size (reach (look_in_raw (raw_closer_of w)) Cut line))
raw_over w line starts h =
    let u = with_line w line in
    let same = raw_same w (10 ∷ line) refl starts in
    let opener = ap raw_opener_len (with_line-is w line) ∙ same.0 in
    let closer = ap raw_closer_of (with_line-is w line) ∙ same.1 in
    let o = over (look_in_raw (raw_closer_of w)) (raw_crosses w) (raw_opener_len w) w line (raw_fits w starts) h in (
      (λ i. goes_on (look_in_raw (closer i)) (drop (opener i) u)) ∙ o.0,
      (λ i. opener i + reach_size (reach (look_in_raw (closer i)) Cut (drop (opener i) u))) ∙ o.1,
    )

pub raw_ended : (w : List ℕ) → starts_raw w ≡ true → opens_raw w ≡ true → (raw_match w).size ≡ length w
raw_ended w starts h =
    over_ended (look_in_raw (raw_closer_of w)) (raw_crosses w) (raw_opener_len w) w (raw_fits w starts) h

-- The quote of a literal.
abbrev pub quote_in : List ℕ → ℕ
quote_in t = quote_of (drop (literal_prefix t) t)

pub quote_as : (w v u quoted : List ℕ) (p q : ℕ) → v ≡ w → u ≡ w → p ≡ literal_prefix v → quoted ≡ drop p u
    → q ≡ quote_of quoted → q ≡ quote_in w
quote_as w v u quoted p q same pending prefix back quote = grind arith

literal_same : (w more : List ℕ) → AtLineEnd more → starts_literal w ≡ true
    → (literal_prefix (w ++ more) ≡ literal_prefix w) × (quote_in (w ++ more) ≡ quote_in w)
literal_same w more e starts = grind (arith, literal_prefix-line, drop_line, is_quoted-size)

pub literal_over : (w line : List ℕ) → starts_literal w ≡ true → opens_literal w ≡ true
    → (opens_literal (with_line w line) ≡ goes_on (look_in_literal (quote_in w)) line)
    × ((literal_match (with_line w line)).size
    ≡ length w + 1 + reach_size (reach (look_in_literal (quote_in w)) Cut line))
literal_over w line starts h =
    let u = with_line w line in
    let same = literal_same w (10 ∷ line) refl starts in
    let prefix = ap literal_prefix (with_line-is w line) ∙ same.0 in
    let quote = ap quote_in (with_line-is w line) ∙ same.1 in
    let o = over (look_in_literal (quote_in w)) (literal_crosses (quote_in w)) (literal_prefix w + 1) w line
    (is_quoted-size (literal_prefix w) w starts) h in (
      (λ i. goes_on (look_in_literal (quote i)) (drop (prefix i + 1) u)) ∙ o.0,
      (λ i. prefix i + 1 + reach_size (reach (look_in_literal (quote i)) Cut (drop (prefix i + 1) u))) ∙ o.1,
    )

pub literal_ended : (w : List ℕ) → starts_literal w ≡ true → opens_literal w ≡ true → (literal_match w).size ≡ length w
literal_ended w starts h = grind (arith, over_ended, literal_crosses, is_quoted-size)
