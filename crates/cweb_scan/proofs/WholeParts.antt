-- C text is framed by the comments of its section, and a macro begins with a Word.
use Rattle.cweb_scan.proofs.Common.{◌≡◌, ◌≤◌, ℕ, ◌+◌, Bool, true, false, not, List, [], ◌∷◌, ◌++◌, Option, Some, None, refl, ap, sym, ◌∙◌, subst, arith, append-nil, fold, option_map, option_to_list, if◌then◌else◌, All, All-nil, All-push, All-weaker, eqb-true, Place, Line, NameRef, PartKind, Token, Name, Defs, Mark, Join, Head, Tail, Punct, Part, is_macro, at_close, without_layout, without_blank, without_last, is_newline, part_with_token, Context, Limbo, TeX, Definition, Macro, CText, Effect, Define, Format, Program, InsertDefs, Joins, EmitAt, Faulty, End, Cut, Kind, Lexeme, Skipped, Section, Code, Defined, Pays, owed_tokens, unescaped, codes, AreLexemes, names_include, ScanState, emit, add_name, begin_part, end_part, end_macro_in, leave_in, leave, begin_section, name_occurrence, Reading, item, after_lexeme, enter, apply_effect, define, report_name_fault, use_name, open_name, name_in_context, each_line_end, move_to, lexemes, source_start}
use Rattle.std.proofs.Common.{eq-eqb}
use Rattle.cweb_store.specs.declared.parts.PartKind.TheVariants as part
use Rattle.cweb_rules.specs.Matches.{Occurrence}
use Rattle.cweb_scan.specs.laws.Laws.{joined_lines}
use Rattle.cweb_scan.specs.laws.PartTokens.{IsFramed, is_word, first_token_is, IsWhole, PartsAreWhole}
use Rattle.cweb_scan.proofs.LexemesAreUnique.{are_pieces}
use Rattle.cweb_scan.proofs.Walked.{fits}
use Rattle.cweb_scan.proofs.LexemeMoves.{pays_entered}
use Rattle.cweb_scan.proofs.CountedLexemes.{leave-same}
use Rattle.cweb_scan.proofs.SmallSteps.{moved, enter-holds, item-holds}
use Rattle.cweb_scan.proofs.OpeningCodes.{is_opening, Allows, AllowsEntered, match-allowed, enter-allowed}
use Rattle.cweb_scan.proofs.BegunParts.{is_head, close-begins, IsShut, HasBegun, IsInside, AreWhole, inside-push, inside-drop, emit-whole, stays_whole}

-- Parts are closed.

macro-whole : (n : ℕ) (p : Part) → is_macro p.kind ≡ true → first_token_is is_word p.tokens ≡ true
    → IsWhole n (at_close p)
macro-whole n p m h = subst (λ v. IsWhole n
    (if v then record p { tokens = without_blank (without_last is_newline p.tokens) } else p)) (sym m) (record {
      c_text = λ c. let bad : false ≡ true = ap not (sym m) ∙ c in cc;
      macro = λ e. close-begins p.tokens h;
    })

framed : (n : ℕ) (ts : List Token) → 1 ≤ n → first_token_is (is_head n) ts ≡ true → IsFramed n (ts ++ Tail n ∷ [])
framed n [] l h = cc
framed n (Head m ∷ ts) l h = record {
  section = n;
  positive = l;
  within = omega arith;
  between = ts;
  whole = ap (λ k. Head k ∷ ts ++ Tail n ∷ []) (eqb-true m n h);
}
framed n (t ∷ ts) l h = cc

text-whole : (n : ℕ) (p : Part) → 1 ≤ n → is_macro p.kind ≡ false → first_token_is (is_head n) p.tokens ≡ true
    → IsWhole n (at_close (part_with_token (Tail n) p))
text-whole n p l m h =
    let q = part_with_token (Tail n) p in
    subst (λ v. IsWhole n (if v then record q { tokens = without_blank (without_last is_newline q.tokens) } else q))
    (sym m) (record {
      c_text = λ c. framed n p.tokens l h;
      macro = λ e. let bad : false ≡ true = sym m ∙ e in cc;
    })

macro-closed : (n : ℕ) (ps : List Part) (o : Option Part) → All (IsWhole n) ps → HasBegun true is_word o
    → All (IsWhole n) (ps ++ option_to_list (option_map at_close o))
macro-closed n ps None a h = absurd h
macro-closed n ps (Some p) a h = All-push (IsWhole n) ps (at_close p) a (macro-whole n p h.0 h.1)

text-closed : (n : ℕ) (ps : List Part) (o : Option Part) → 1 ≤ n → All (IsWhole n) ps → HasBegun false (is_head n) o
    → All (IsWhole n) (ps ++ option_to_list (option_map at_close (option_map (part_with_token (Tail n)) o)))
text-closed n ps None l a h = absurd h
text-closed n ps (Some p) l a h =
    All-push (IsWhole n) ps (at_close (part_with_token (Tail n) p)) a (text-whole n p l h.0 h.1)

-- Nothing is open, and there is a section.
abbrev IsBetween : ScanState → Type 0
IsBetween s = All (IsWhole s.sections) s.contents.parts.closed × IsShut s.contents.parts.current × (1 ≤ s.sections)

end-whole : (s : ScanState) → All (IsWhole s.sections) s.contents.parts.closed
    → HasBegun true is_word s.contents.parts.current → 1 ≤ s.sections → IsBetween (end_part s)
end-whole s a h l = (macro-closed s.sections s.contents.parts.closed s.contents.parts.current a h, tt, l)

-- A macro that may be open is ended where no other part is open.
macro-between : (e : Effect) → is_opening e ≡ true → (c : Context) (s : ScanState)
    → All (IsWhole s.sections) s.contents.parts.closed → IsInside c s.sections s.contents.parts.current
    → AllowsEntered c (Code e) → IsBetween (end_macro_in c s)
macro-between e opening TeX s a h ok = (a, h.0, h.1)
macro-between e opening Macro s a h ok = end-whole s a h.0 h.1
macro-between e opening Limbo s a h ok = cc
macro-between e opening CText s a h ok = cc
macro-between e opening (Definition begun) s a h ok = cc

macro-ended : (c : Context) (s : ScanState) → s.context ≡ c → AreWhole s → AreWhole (end_macro_in c s)
macro-ended Macro s e h =
    let i = subst (λ c. IsInside c s.sections s.contents.parts.current) e h.1 in
    let b = end-whole s h.0 i.0 i.1 in (b.0, (b.1, b.2))
macro-ended _ s e h = h

begin-whole : (kind : PartKind) (s : ScanState) → is_macro kind ≡ false → IsBetween s → AreWhole (begin_part kind s)
begin-whole kind s k h = (h.0, ((k, eq-eqb s.sections s.sections refl), h.2))

-- A section start, or the end of the source, closes the open part.
leave-whole : (c : Context) (s : ScanState) → s.context ≡ c → AreWhole s
    → All (IsWhole s.sections) (leave_in c s).contents.parts.closed × IsShut (leave_in c s).contents.parts.current
leave-whole c s e h = by c (subst (λ d. IsInside d s.sections s.contents.parts.current) e h.1)
  where
    by : (c : Context) → IsInside c s.sections s.contents.parts.current
        → All (IsWhole s.sections) (leave_in c s).contents.parts.closed × IsShut (leave_in c s).contents.parts.current
    by Limbo i = (h.0, i)
    by TeX i = (h.0, i.0)
    by (Definition begun) i = (h.0, i.0)
    by Macro i = (macro-closed s.sections s.contents.parts.closed s.contents.parts.current h.0 i.0, tt)
    by CText i = (text-closed s.sections s.contents.parts.closed s.contents.parts.current i.1 h.0 i.0, tt)

one-more : (n : ℕ) (p : Part) → IsWhole n p → IsWhole (n + 1) p
one-more n p h = record {
  c_text = λ c.
      let f = h.c_text c in
      record {
        section = f.section;
        positive = f.positive;
        within = omega (arith, f.within);
        between = f.between;
        whole = f.whole;
      };
  macro = h.macro;
}

section-whole : (starred : Bool) (s : ScanState) → AreWhole s → AreWhole (begin_section starred s)
section-whole starred s h =
    let l = leave-whole s.context s refl h in (
      All-weaker (IsWhole s.sections) (IsWhole (s.sections + 1)) (one-more s.sections)
          (leave s).contents.parts.closed l.0,
      (l.1, omega arith),
    )

effect-whole : (e : Effect) (s : ScanState) → AllowsEntered s.context (Code e) → AreWhole s
    → AreWhole (apply_effect e s)
effect-whole Define s ok h = let b = macro-between Define refl s.context s h.0 h.1 ok in (b.0, (b.1, b.2))
effect-whole Format s ok h = macro-ended s.context s refl h
effect-whole Program s ok h =
    begin-whole part.Unnamed (end_macro_in s.context s) refl (macro-between Program refl s.context s h.0 h.1 ok)
effect-whole InsertDefs s ok h = emit-whole (Mark s.here) (emit Defs s) (emit-whole Defs s h)
effect-whole Joins s ok h = (
  h.0,
  inside-push s.context s.sections Join (option_map without_layout s.contents.parts.current)
      (inside-drop s.context s.sections s.contents.parts.current h.1),
)
effect-whole EmitAt s ok h = emit-whole (Punct (codes "@")) s h
effect-whole (Faulty k) s ok h = h
effect-whole _ s ok h = h

positive : (c : Context) (n : ℕ) (o : Option Part) → owed_tokens c ≡ 2 → IsInside c n o → 1 ≤ n
positive (Definition begun) n o e h = h.1
positive Limbo n o e h = absurd (omega (arith, e))
positive _ n o e h = h.1

define-whole : (bytes : List ℕ) (tight : Bool) (s : ScanState) → owed_tokens s.context ≡ 2 → AreWhole s
    → AreWhole (define bytes tight s)
define-whole bytes true s e h =
    (h.0, ((refl, refl), positive s.context s.sections s.contents.parts.current e h.1))
define-whole bytes false s e h =
    (h.0, ((refl, refl), positive s.context s.sections s.contents.parts.current e h.1))

open-whole : (n : NameRef) (opens : Bool) (s : ScanState) → AllowsEntered s.context (Code Define) → AreWhole s
    → AreWhole (open_name n opens s)
open-whole n true s ok h =
    begin-whole (part.Named n) (end_macro_in s.context s) refl (macro-between Define refl s.context s h.0 h.1 ok)
open-whole n false s ok h = macro-ended s.context s refl h

use-whole : (n : NameRef) (opens : Bool) (p : Place) (s : ScanState) → AreWhole s → AreWhole (use_name n opens p s)
use-whole n true p s h = emit-whole (Mark s.here) (emit (Name n) s) (emit-whole (Name n) s h)
use-whole n false p s h = emit-whole (Mark s.here) (emit (Name n) s) (emit-whole (Name n) s h)

context-whole : (c : Context) (n : NameRef) (opens : Bool) (p : Place) (s : ScanState) → s.context ≡ c → AreWhole s
    → AreWhole (name_in_context c n opens p s)
context-whole TeX n opens p s e h =
    open-whole n opens s (subst (λ d. AllowsEntered d (Code Define)) (sym e) tt) h
context-whole Macro n opens p s e h =
    open-whole n opens s (subst (λ d. AllowsEntered d (Code Define)) (sym e) tt) h
context-whole CText n opens p s e h = use-whole n opens p s h
context-whole _ n opens p s e h = h

fault-whole : (how : End) (p : Place) (s : ScanState) → AreWhole s → AreWhole (report_name_fault how p s)
fault-whole Cut p s h = h
fault-whole _ p s h = h

fault-context : (how : End) (p : Place) (s : ScanState) → (report_name_fault how p s).context ≡ s.context
fault-context Cut p s = refl
fault-context _ p s = refl

item-whole : (k : Kind) (bytes : List ℕ) (r : Reading) → AllowsEntered r.state.context k
    → Pays r.state.context k bytes → AreWhole r.state → AreWhole (item k bytes r).state
item-whole (Section starred) bytes r ok pays h = section-whole starred r.state h
item-whole (Code effect) bytes r ok pays h = effect-whole effect r.state ok h
item-whole (Occurrence is_file units how opens) bytes r ok pays h =
    let m = (each_line_end move_to bytes r).state in
    let a = add_name (name_occurrence is_file (unescaped units)) m in
    context-whole m.context _ opens r.state.here (report_name_fault how r.state.here a)
    (fault-context how r.state.here a) (fault-whole how r.state.here a (moved stays_whole bytes r h))
item-whole (Defined tight) bytes r ok pays h = define-whole bytes tight r.state pays.1 h
item-whole Skipped bytes r ok pays h = item-holds stays_whole Skipped bytes r tt h
item-whole k bytes r ok pays h = item-holds stays_whole k bytes r tt h

lexemes-whole : (ps : List Lexeme) (r : Reading) (t : List ℕ) → AreLexemes r t ps → AreWhole r.state
    → AreWhole (fold after_lexeme r ps).state
lexemes-whole [] r t a h = h
lexemes-whole (p ∷ ps) r t a h =
    let fit = fits r t p.bytes a.0 p.kind a.1 a.2 a.3.kind a.3.size in
    let ok : Allows r.state.context p.kind = subst (Allows r.state.context) (sym a.3.kind)
    (match-allowed r.state.context (names_include r.state) t) in
    lexemes-whole ps (after_lexeme r p) a.0 a.4 (item-whole p.kind p.bytes (record r { state = enter p.kind r.state })
    (enter-allowed p.kind r.state ok) (pays_entered p.kind p.bytes r.state fit.0)
    (enter-holds stays_whole p.kind r.state h))

shut-parts : (n : ℕ) (ps : List Part) (o : Option Part) → All (IsWhole n) ps → IsShut o
    → All (IsWhole n) (ps ++ option_to_list o)
shut-parts n ps None a h = subst (All (IsWhole n)) (sym (append-nil ps)) a
shut-parts n ps (Some p) a h = absurd h

pub parts_are_whole : (lines : List Line) → PartsAreWhole lines
parts_are_whole [] = All-nil (IsWhole 0)
parts_are_whole (line ∷ lines) =
    let r = source_start line lines in
    let t = joined_lines line lines in
    let s = (fold after_lexeme r (lexemes r t)).state in
    let h = leave-whole s.context s refl (lexemes-whole (lexemes r t) r t (are_pieces r t) (All-nil (IsWhole 0), tt)) in
    shut-parts (leave s).sections (leave s).contents.parts.closed (leave s).contents.parts.current
    (subst (λ n. All (IsWhole n) (leave s).contents.parts.closed) (sym (leave-same s.context s).0) h.0) h.1
