-- The effect of the law's lexemes on a state.
use Rattle.cweb_scan.proofs.Common.{◌≡◌, ℕ, Bool, true, false, cond, ◌&&◌, not, List, [], ◌∷◌, ◌++◌, refl, ap, sym, ◌∙◌, append_assoc, codes, bytes_eq, fold, fold-append, filter-append, append-nil, Place, Token, Blank, Newline, Mark, Reading, next_line, each_line_end, line_end, comment_line_end, blank, literal_unit, is_next_line, is_line_end, directive, in_directive, is_c, is_some, ScanState, emit, move_to, open_part_tokens, InPlainC, HasReadTokens, significant, is_hash, is_clean, and-false, and_parts, is_last_blank, arith}

pub no_directive : (s : ScanState) → InPlainC s → in_directive s ≡ false
no_directive s h = ap (λ o. is_c s.context && is_some o) h.no_directive ∙ and-false (is_c s.context)

pub nothing : (s : ScanState) → InPlainC s → HasReadTokens s s []
nothing s h = record { plain = h; tokens = sym (append-nil (significant (open_part_tokens s))); faults = refl }

pub and_then : (a b c : ScanState) (us vs : List Token) → HasReadTokens a b us → HasReadTokens b c vs
    → HasReadTokens a c (us ++ vs)
and_then a b c us vs f g = grind (arith, append_assoc)

-- A blank emits nothing.
pub blank_yields : (s : ScanState) → InPlainC s → blank s ≡ s
blank_yields s h = ap (λ v. cond (v && not (is_last_blank (directive s).last)) (emit Blank s) s) (no_directive s h)

pub emitted : (s : ScanState) (t : Token) → InPlainC s → is_hash t ≡ false
    → HasReadTokens s (emit t s) (significant (t ∷ []))
emitted s t h plain = grind (arith, no_directive, fold-append, filter-append)

-- The place and the `folded` flag may change.
pub placed : (s t : ScanState) (ts : List Token) (p : Place) (folded : Bool)
    → HasReadTokens s t ts → HasReadTokens s (record t { here = p; folded = folded }) ts
placed s t ts p folded h = grind (arith, no_directive)

pub moves : (p : Place) (s : ScanState) → InPlainC s → HasReadTokens s (move_to p s) []
moves p s h = placed s s [] p true (nothing s h)

-- A newline emits only layout.
ends : (p : Place) (s : ScanState) (here : Bool) → InPlainC s
    → HasReadTokens s (move_to p (emit (cond here (Mark p) Newline) s)) []
ends p s true h = placed s (emit (Mark p) s) [] p true (emitted s (Mark p) h refl)
ends p s false h = placed s (emit Newline s) [] p true (emitted s Newline h refl)

pub line_ends : (p : Place) (s : ScanState) → InPlainC s → HasReadTokens s (line_end p s) []
line_ends p s h = grind (arith, no_directive s h, h.in_c, ends p s (not (is_next_line s.here p)) h)

pub comment_line_ends : (p : Place) (s : ScanState) → InPlainC s → HasReadTokens s (comment_line_end p s) []
comment_line_ends p s h = grind (arith, no_directive s h, line_ends p s h)

abbrev YieldsNothing : (Place → ScanState → ScanState) → Type 0
YieldsNothing f = (p : Place) (s : ScanState) → InPlainC s → HasReadTokens s (f p s) []

by_later : (f : Place → ScanState → ScanState) → YieldsNothing f → (s : ScanState) (later : List Place)
    → InPlainC s → HasReadTokens s (next_line f (record { state = s; later = later })).state []
by_later f yields s [] h = nothing s h
by_later f yields s (p ∷ later) h = yields p s h

pub next_gives : (f : Place → ScanState → ScanState) → YieldsNothing f → (r : Reading)
    → InPlainC r.state → HasReadTokens r.state (next_line f r).state []
next_gives f yields r h = by_later f yields r.state r.later h

one_byte : (f : Place → ScanState → ScanState) → YieldsNothing f → (v : Bool) (r : Reading)
    → InPlainC r.state → HasReadTokens r.state (cond v (next_line f r) r).state []
one_byte f yields true r h = next_gives f yields r h
one_byte f yields false r h = nothing r.state h

pub each_yields : (f : Place → ScanState → ScanState) → YieldsNothing f → (bytes : List ℕ) (r : Reading)
    → InPlainC r.state → HasReadTokens r.state (each_line_end f bytes r).state []
each_yields f yields [] r h = nothing r.state h
each_yields f yields (b ∷ t) r h =
    let q = cond (is_line_end b) (next_line f r) r in
    let first = one_byte f yields (is_line_end b) r h in
    and_then r.state q.state (each_line_end f t q).state [] [] first (each_yields f yields t q first.plain)

clean_unit : (v : Bool) (u : List ℕ) (r : Reading) (wrong : Reading) → not v ≡ true
    → InPlainC r.state → HasReadTokens r.state (cond v wrong (each_line_end move_to u r)).state []
clean_unit true u r wrong e h = cc
clean_unit false u r wrong e h = each_yields move_to moves u r h

pub units_give : (units : List (List ℕ)) (r : Reading) → is_clean units ≡ true
    → InPlainC r.state → HasReadTokens r.state (fold literal_unit r units).state []
units_give [] r clean h = nothing r.state h
units_give (u ∷ us) r clean h =
    let e = and_parts (not (bytes_eq u (codes "@"))) (is_clean us) clean in
    let q = literal_unit r u in
    let first : HasReadTokens r.state q.state [] =
    clean_unit (bytes_eq u (codes "@")) u r (literal_unit r (codes "@")) e.0 h in
    and_then r.state q.state (fold literal_unit q us).state [] [] first (units_give us q e.1 first.plain)
