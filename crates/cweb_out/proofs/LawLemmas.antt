-- The laws of expansion and printing.
use Rattle.cweb_out.proofs.Common.{◌≡◌, ◌≤◌, ◌+◌, ◌-◌, ◌==◌, ℕ, zero, suc, Bool, true, false, cond, ◌&&◌, is_layout, List, [], ◌∷◌, ◌++◌, refl, sym, ◌∙◌, ap, arith, append_assoc, append-nil, Option, None, Some, codes, fold, flat_map, list_all, flat_map-append, NameId, Token, Newline, Defs, Name, Stored, Frame, AreOwned, IsFrameStack, rank, names, joined, resolved_use, uses, use_of, ends_below, expand, expanded_name, put, option_to_list, and_parts, option_map_or, last_is, sep, Setting, file, file_token_bytes, without_joined_layout, last_token, left_after, macro_line, macro_lines, mark_line, print, print_after, starts_line, stays_joined, Edge, separator, ReplacesUses, is_no_use, print_following, is_whole_lines}
use Rattle.cweb_store.specs.Parts.{Mark}
use Rattle.cweb_store.specs.declared.edges.Edge.TheVariants as edge_kind
use Rattle.cweb_out.specs.laws.Laws.{IsRanked, RanksDecrease, is_joined}
use Rattle.cweb_out.proofs.Owners.{top-lower}
use Rattle.cweb_out.proofs.Ranks.{all-append, all-parts}
use Rattle.cweb_out.proofs.Steps.{sep_by_edge}

text_for-text : (f : NameId → List Token) (o : Option NameId)
    → ((n : NameId) → list_all is_no_use (f n) ≡ true) → list_all is_no_use (option_map_or f o []) ≡ true
text_for-text f None h = refl
text_for-text f (Some n) h = h n

put-text : (w : Stored) (f : NameId → List Token) (t : Token)
    → ((n : NameId) → list_all is_no_use (f n) ≡ true) → list_all is_no_use (put w f t) ≡ true
put-text w f (Name r) h = text_for-text f (resolved_use w r) h
put-text w f t h = refl

puts-text : (w : Stored) (f : NameId → List Token) (ts : List Token)
    → ((n : NameId) → list_all is_no_use (f n) ≡ true) → list_all is_no_use (flat_map (put w f) ts) ≡ true
puts-text w f [] h = refl
puts-text w f (t ∷ ts) h = grind (arith, all-append, put-text, puts-text w f ts h)

name-text : (w : Stored) (k : ℕ) (n : NameId) → list_all is_no_use (expanded_name w k n) ≡ true
name-text w zero n = refl
name-text w (suc k) n = puts-text w (expanded_name w k) (joined w n) (λ m. name-text w k m)

put-same : (w : Stored) (f : NameId → List Token) (t : Token) → is_no_use t ≡ true → put w f t ≡ t ∷ []
put-same w f (Name r) h = cc
put-same w f t h = refl

pub replaces_uses : {w : Stored} {k : ℕ} → ReplacesUses w k
replaces_uses {w} {k} = record {
  no_use = λ ts. puts-text w (expanded_name w k) ts (name-text w k);
  kept = grind (arith, flat_map-append, put-same);
  replaced = grind (arith, flat_map-append);
}

-- Names that pass a test have equal lists.
abbrev AreSame : (NameId → Bool) → (NameId → List Token) → (NameId → List Token) → Type 0
AreSame p f g = (n : NameId) → p n ≡ true → f n ≡ g n

option-same : (p : NameId → Bool) (f g : NameId → List Token) (o : Option NameId) → AreSame p f g
    → list_all p (option_to_list o) ≡ true → option_map_or f o [] ≡ option_map_or g o []
option-same p f g None same h = refl
option-same p f g (Some n) same h = same n (and_parts (p n) true h).0

put-used : (w : Stored) (p : NameId → Bool) (f g : NameId → List Token) (t : Token) → AreSame p f g
    → list_all p (use_of w t) ≡ true → put w f t ≡ put w g t
put-used w p f g (Name r) same h = option-same p f g (resolved_use w r) same h
put-used w p f g t same h = refl

puts-used : (w : Stored) (p : NameId → Bool) (f g : NameId → List Token) (ts : List Token) → AreSame p f g
    → list_all p (uses w ts) ≡ true → flat_map (put w f) ts ≡ flat_map (put w g) ts
puts-used w p f g [] same h = refl
puts-used w p f g (t ∷ ts) same h =
    let parts = all-parts p (use_of w t) (uses w ts) h in
    let first = put-used w p f g t same parts.0 in
    let rest = puts-used w p f g ts same parts.1 in
    rw (first, rest) refl

deeper : (w : Stored) (k depth : ℕ) (n : NameId) → k ≤ depth → ends_below w k n ≡ true
    → expanded_name w depth n ≡ expanded_name w k n
deeper w zero depth n le h = cc
deeper w (suc k) zero n le h = absurd (omega (arith, le))
deeper w (suc k) (suc depth) n le h = puts-used w (ends_below w k) (expanded_name w depth) (expanded_name w k)
    (joined w n) (λ m e. deeper w k depth m (omega (arith, le)) e) h

pub depth_changes_nothing : (w : Stored) (k depth : ℕ) (ts : List Token) → k ≤ depth
    → list_all (ends_below w k) (uses w ts) ≡ true → expand w depth ts ≡ expand w k ts
depth_changes_nothing w k depth ts le h =
    puts-used w (ends_below w k) (expanded_name w depth) (expanded_name w k) ts (λ n e. deeper w k depth n le e) h

ranks-decrease : (w : Stored) (above : ℕ) (fs : List Frame) → AreOwned w above fs → RanksDecrease w fs
ranks-decrease w above [] h = tt
ranks-decrease w above (f ∷ []) h = tt
ranks-decrease w above (f ∷ g ∷ fs) h = (h.2.1, ranks-decrease w (rank w f.owner) (g ∷ fs) h.2)

pub frame_stacks_are_ranked : (w : Stored) (fs : List Frame) (capacity : ℕ) → IsFrameStack w fs capacity
    → IsRanked w fs
frame_stacks_are_ranked w fs capacity s = record {
  ranked = ranks-decrease w (names w + 1) fs s.owned;
  depth = omega (arith, top-lower w (names w + 1) fs s.owned);
}

kept-append : (joined : Bool) (xs ys : List Token)
    → without_joined_layout joined (xs ++ ys) ≡ without_joined_layout joined xs
    ++ without_joined_layout (fold stays_joined joined xs) ys
kept-append joined [] ys = refl
kept-append joined (x ∷ xs) ys = grind (arith, joined, kept-append (stays_joined joined x) xs ys)

print_after-append : (text : Option Token → Token → List ℕ) (l : Option Token) (xs ys : List Token)
    → print_after text l (xs ++ ys) ≡ print_after text l xs ++ print_after text (last_token l xs) ys
print_after-append text l [] ys = refl
print_after-append text l (x ∷ xs) ys = grind (arith, append_assoc, print_after-append text (Some x) xs ys)

pub print_goes_on : (s : Setting) (before ts : List Token)
    → print s (before ++ ts) ≡ print s before ++ print_following s before ts
print_goes_on s before ts = grind (arith, kept-append, print_after-append)

last-push : (l : Option Token) (ts : List Token) (t : Token) → last_token l (ts ++ t ∷ []) ≡ Some t
last-push l [] t = refl
last-push l (x ∷ ts) t = last-push (Some x) ts t

joined-push : (joined : Bool) (ts : List Token) (t : Token)
    → fold stays_joined joined (ts ++ t ∷ []) ≡ stays_joined (fold stays_joined joined ts) t
joined-push joined [] t = refl
joined-push joined (x ∷ ts) t = joined-push (stays_joined joined x) ts t

kept-first : (joined : Bool) (t : Token) (ts : List Token) → (joined && is_layout t) ≡ false
    → without_joined_layout joined (t ∷ ts) ≡ t ∷ without_joined_layout (stays_joined joined t) ts
kept-first joined t ts h = let rest = without_joined_layout (stays_joined joined t) ts in
    ap (λ b. cond b rest (t ∷ rest)) h

left-push : (ts : List Token) (t : Token) → (is_joined ts && is_layout t) ≡ false → left_after (ts ++ t ∷ []) ≡ Some t
left-push ts t h = ap (last_token None) (kept-append false ts (t ∷ [])
    ∙ ap (λ us. without_joined_layout false ts ++ us) (kept-first (is_joined ts) t [] h))
    ∙ last-push None (without_joined_layout false ts) t

pub each_token_is_printed : (s : Setting) (before after : List Token) (t : Token)
    → (is_joined before && is_layout t) ≡ false
    → print s (before ++ t ∷ after) ≡ print s before ++ ((sep (left_after before) t
    ++ file_token_bytes s (left_after before) t) ++ print_following s (before ++ t ∷ []) after)
each_token_is_printed s before after t h =
    let text = file_token_bytes s in
    let first = ap (print_after text (left_after before)) (kept-first (is_joined before) t after h) in
    let rest : print_after text (left_after (before ++ t ∷ []))
    (without_joined_layout (is_joined (before ++ t ∷ [])) after)
    ≡ print_after text (Some t) (without_joined_layout (stays_joined (is_joined before) t) after) =
    ap (λ (l : Option Token). print_after text l (without_joined_layout (is_joined (before ++ t ∷ [])) after))
    (left-push before t h)
    ∙ ap (λ (j : Bool). print_after text (Some t) (without_joined_layout j after)) (joined-push false before t) in
    print_goes_on s before (t ∷ after) ∙ ap (λ (bytes : List ℕ). print s before ++ bytes) (first
    ∙ ap (λ (bytes : List ℕ). (sep (left_after before) t ++ text (left_after before) t) ++ bytes) (sym rest))

abbrev is_ended : List ℕ → Bool
is_ended bytes = last_is (λ x. x == 10) bytes

ended-after : (xs ys : List ℕ) → is_ended ys ≡ true → is_ended (xs ++ ys) ≡ true
ended-after [] ys h = h
ended-after (x ∷ []) [] h = cc
ended-after (x ∷ []) (y ∷ ys) h = h
ended-after (x ∷ z ∷ xs) ys h = ended-after (z ∷ xs) ys h

whole-ended : (xs : List ℕ) → is_ended xs ≡ true → is_whole_lines xs ≡ true
whole-ended [] h = refl
whole-ended (x ∷ xs) h = h

whole-append : (xs ys : List ℕ) → is_whole_lines xs ≡ true → is_whole_lines ys ≡ true → is_whole_lines (xs ++ ys) ≡ true
whole-append xs [] a b = ap is_whole_lines (append-nil xs) ∙ a
whole-append xs (y ∷ ys) a b = whole-ended (xs ++ y ∷ ys) (ended-after xs (y ∷ ys) b)

abbrev newline : List ℕ
newline = codes "\n"

macro-ended : (replaced : ℕ → List ℕ) (ts : List Token) → is_ended (macro_line replaced ts) ≡ true
macro-ended replaced ts = grind (arith, replaced, ended-after)

macros-whole : (replaced : ℕ → List ℕ) (macros : List (List Token))
    → is_whole_lines (flat_map (macro_line replaced) macros) ≡ true
macros-whole replaced [] = refl
macros-whole replaced (ts ∷ macros) = whole-append (macro_line replaced ts) (flat_map (macro_line replaced) macros)
    (whole-ended (macro_line replaced ts) (macro-ended replaced ts)) (macros-whole replaced macros)

mark-ended : (name : List ℕ) (line : ℕ) → is_ended (mark_line name line) ≡ true
mark-ended name line = grind (arith, ended-after)

separator-none : (c : Edge) → separator c Defs ≡ []
separator-none edge_kind.Word = refl
separator-none _ = refl

defs-whole : (s : Setting) (bytes : List ℕ) (v : Bool) → (v ≡ true → is_whole_lines bytes ≡ true)
    → is_whole_lines (bytes ++ (cond v [] newline ++ macro_lines s)) ≡ true
defs-whole s bytes true h = whole-append bytes (macro_lines s) (h refl) (macros-whole s.replaced s.macros)
defs-whole s bytes false h = ap is_whole_lines (sym (append_assoc bytes newline (macro_lines s)))
    ∙ whole-append (bytes ++ newline) (macro_lines s)
    (whole-ended (bytes ++ newline) (ended-after bytes newline refl)) (macros-whole s.replaced s.macros)

-- The output up to a token that begins a line consists of whole lines.
token-whole : (s : Setting) (l : Option Token) (bytes : List ℕ) (t : Token)
    → (starts_line l ≡ true → is_whole_lines bytes ≡ true) → starts_line (Some t) ≡ true
    → is_whole_lines (bytes ++ (sep l t ++ file_token_bytes s l t)) ≡ true
token-whole s l bytes Newline h k = grind (arith, whole-ended, ended-after)
token-whole s l bytes (Mark p) h k = grind (arith, whole-ended, ended-after, mark-ended)
token-whole s l bytes Defs h k = grind (arith, sep_by_edge, separator-none, defs-whole)
token-whole s l bytes t h k = cc

list-whole : (s : Setting) (l : Option Token) (bytes : List ℕ) (ts : List Token)
    → (starts_line l ≡ true → is_whole_lines bytes ≡ true) → starts_line (last_token l ts) ≡ true
    → is_whole_lines (bytes ++ print_after (file_token_bytes s) l ts) ≡ true
list-whole s l bytes [] h k = ap is_whole_lines (append-nil bytes) ∙ h k
list-whole s l bytes (t ∷ ts) h k =
    grind (arith, append_assoc, token-whole, list-whole s (Some t) (bytes ++ (sep l t ++ file_token_bytes s l t)) ts)

pub files_have_whole_lines : (s : Setting) (ts : List Token) → is_whole_lines (file s ts) ≡ true
files_have_whole_lines s ts = cases (starts_line (left_after ts)) refl
  where
    cases : (v : Bool) → starts_line (left_after ts) ≡ v → is_whole_lines (print s ts ++ cond v [] newline) ≡ true
    cases true e = ap is_whole_lines (append-nil (print s ts))
        ∙ list-whole s None [] (without_joined_layout false ts) (λ h. refl) e
    cases false e = whole-ended (print s ts ++ newline) (ended-after (print s ts) newline refl)
