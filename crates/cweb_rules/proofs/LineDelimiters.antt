-- Raw literals and included names that end in their line don't depend on the bytes after it.
use Rattle.cweb_rules.proofs.Common.{◌≡◌, ◌≤◌, ℕ, suc, ◌+◌, true, false, cond, ◌&&◌, List, [], ◌∷◌, ◌++◌, length, take, drop, refl, ap, ◌∙◌, arith, codes, list_all, prefix_len, take-append-le, drop-append-le, length-drop, prefix_len-le-length, begins, is_blank, is_delimiter, Cut, reach_of_included_name, reach_of_raw_literal, look_in_include, look_in_raw, RuleMatch, quoted_match, raw_prefix, has_delimiter, starts_raw, delimiter, raw_closer, raw_match, starts_include, include_match, AtLineEnd, opens_raw, or-true, and_parts}
use Rattle.cweb_rules.proofs.Seams.{in_line, begins_line, drop_line, run_line}
use Rattle.cweb_rules.proofs.Reaches.{reach-line}
use Rattle.cweb_rules.proofs.Looks.{all_some, whole, include-local, include-units, raw-local, raw-units}
use Rattle.cweb_rules.proofs.Sizes.{begins-size, reach-size, raw-within, include-within}
use Rattle.cweb_rules.proofs.LineComments.{and_same}
use Rattle.cweb_rules.proofs.TokenSizes.{has_delimiter-size}
use Rattle.cweb_rules.proofs.LineLiterals.{quoted-line, quoted_ends}

pub raw_prefix-line : (t more : List ℕ) → AtLineEnd more → raw_prefix (t ++ more) ≡ raw_prefix t
raw_prefix-line t more e = grind (arith, begins_line (codes "UR\"") t more refl e)

raw_prefix-fits : (t : List ℕ) → raw_prefix t ≤ length t
raw_prefix-fits t = grind (arith, begins-size (codes "u8R\"") t)

has_delimiter-line : (t more : List ℕ) → AtLineEnd more → has_delimiter (t ++ more) ≡ has_delimiter t
has_delimiter-line t more e =
    grind (arith, run_line is_delimiter t more refl e, drop_line (codes "("), prefix_len-le-length is_delimiter t)

pub sign-fits : (t : List ℕ) → begins (codes "R\"") (drop (raw_prefix t) t) ≡ true → raw_prefix t + 2 ≤ length t
sign-fits t h = omega (arith, begins-size (codes "R\"") (drop (raw_prefix t) t) h, length-drop (raw_prefix t) t)

pub starts_raw_line : (t more : List ℕ) → AtLineEnd more → starts_raw (t ++ more) ≡ starts_raw t
starts_raw_line t more e = grind (arith, and_same, raw_prefix-fits t, drop-append-le, sign-fits t, has_delimiter-line)

pub delimiter-line : (t more : List ℕ) → AtLineEnd more → delimiter (t ++ more) ≡ delimiter t
delimiter-line t more e = grind (arith, run_line, take-append-le, prefix_len-le-length)

delimits : (b : ℕ) → is_delimiter b ≡ true → in_line b ≡ true
delimits b h = grind (arith, or-true (is_blank b))

delimiter-in_line : (t : List ℕ) → list_all in_line (delimiter t) ≡ true
delimiter-in_line [] = refl
delimiter-in_line (b ∷ t) = (elim (is_delimiter b) as (λ v.
    is_delimiter b ≡ v → list_all in_line (take (cond v (1 + prefix_len is_delimiter t) 0) (b ∷ t)) ≡ true) [
      | true ↦ λ h. let e : 1 + prefix_len is_delimiter t ≡ suc (prefix_len is_delimiter t) = omega arith in
          ap (λ n. list_all in_line (take n (b ∷ t))) e
          ∙ ap (λ v. v && list_all in_line (delimiter t)) (delimits b h) ∙ delimiter-in_line t
      | false ↦ λ h. refl
    ]) refl

with_end : (d : List ℕ) → list_all in_line d ≡ true → list_all in_line (d ++ codes "\"") ≡ true
with_end [] h = refl
with_end (b ∷ d) h = grind (arith, and_parts (in_line b) (list_all in_line d) h, in_line b, with_end d)

pub closing_sign-in_line : (t : List ℕ) → list_all in_line (raw_closer t) ≡ true
closing_sign-in_line t = with_end (delimiter t) (delimiter-in_line t)

abbrev pub raw_from : ℕ → List ℕ → List ℕ → RuleMatch
raw_from m d t = let n = m + length d + 1 in
    quoted_match n (reach_of_raw_literal (codes ")" ++ d ++ codes "\"") (drop n t)) t

pub raw_at_line : (t more : List ℕ) → AtLineEnd more → starts_raw t ≡ true
    → opens_raw t ≡ false → raw_match (t ++ more) ≡ raw_match t
raw_at_line t more e starts ends =
    let m = raw_prefix t + 2 in
    let d = delimiter (drop m t) in
    let n = m + length d + 1 in
    let sign = raw_closer (drop m t) in
    let start = and_parts (begins (codes "R\"") (drop (raw_prefix t) t)) (has_delimiter (drop m t)) starts in
    let two = sign-fits t start.0 in
    let some = has_delimiter-size (drop m t) start.1 in
    let clean = closing_sign-in_line (drop m t) in
    let look = look_in_raw sign in
    ap (λ n. raw_from (n + 2) (delimiter (drop (n + 2) (t ++ more))) (t ++ more)) (raw_prefix-line t more e)
    ∙ ap (λ d. raw_from m d (t ++ more)) (ap delimiter (drop-append-le m t more two) ∙ delimiter-line (drop m t) more e)
    ∙ quoted_ends look n t more (omega (arith, some, two, length-drop m t)) (raw-within sign)
    (all_some look (raw-units sign)) (λ m f. raw-local sign m clean f) e (λ h. cc) ends

include-stops : (more : List ℕ) → AtLineEnd more
    → reach_of_included_name more ≡ record { units = []; close = 0; how = Cut }
include-stops [] e = refl
include-stops (b ∷ more) e = ap (λ n. reach_of_included_name (n ∷ more)) e

included-line : (t more : List ℕ) → AtLineEnd more → reach_of_included_name (t ++ more) ≡ reach_of_included_name t
included-line t more e = grind (arith, reach-line, include-local, whole, include-units, include-stops)

pub starts_include_line : (b : ℕ) (t more : List ℕ) → AtLineEnd more
    → starts_include (b ∷ t ++ more) ≡ starts_include (b ∷ t)
starts_include_line b t more e = cc (included-line t more e)

pub include_at_line : (b : ℕ) (t more : List ℕ) → AtLineEnd more → include_match (b ∷ t ++ more) ≡ include_match (b ∷ t)
include_at_line b t more e = ap (λ r. quoted_match 1 r (b ∷ t ++ more)) (included-line t more e)
    ∙ quoted-line 1 (reach_of_included_name t) (b ∷ t) more (omega arith)
    (reach-size look_in_include Cut include-within t)
