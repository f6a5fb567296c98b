-- In C text a Mark follows each use and each Defs.
use Rattle.cweb_scan.proofs.Common.{◌≡◌, ℕ, Bool, true, false, not, ◌||◌, List, [], ◌∷◌, ◌++◌, Option, Some, None, refl, ap, sym, ◌∙◌, subst, append_assoc, append-nil, fold, and_parts, and_from, option_map, option_to_list, if◌then◌else◌, All, All-nil, All-push, Place, Line, NameRef, PartKind, Token, Name, Defs, Mark, Join, Tail, Punct, Part, is_macro, at_close, without_layout, without_blank, without_last, is_newline, part_with_token, Context, TeX, Macro, CText, Effect, Define, Format, Program, InsertDefs, Joins, EmitAt, Faulty, End, Cut, Kind, Lexeme, Skipped, Section, Code, Defined, unescaped, codes, ScanState, emit, add_name, begin_part, end_part, end_macro_in, leave_in, leave, name_occurrence, Reading, item, after_lexeme, enter, apply_effect, define, report_name_fault, use_name, open_name, name_in_context, each_line_end, move_to, source_start}
use Rattle.cweb_store.specs.Parts.{is_c_part}
use Rattle.cweb_store.specs.declared.parts.PartKind.TheVariants as part
use Rattle.cweb_store.proofs.LayoutLawLemmas.{only_layout_is_dropped}
use Rattle.cweb_rules.specs.Matches.{Occurrence}
use Rattle.cweb_scan.specs.laws.Laws.{lexemes_of_lines}
use Rattle.cweb_scan.specs.laws.PartTokens.{needs_mark, is_mark_or_join, first_token_is, marks_follow, MarksFollowUses}
use Rattle.cweb_scan.proofs.SmallSteps.{IsSmall, Preserves, moved, enter-holds, item-holds}

abbrev begins_with_mark : List Token → Bool
begins_with_mark ts = first_token_is is_mark_or_join ts

or-weaker : (n b c : Bool) → (b ≡ true → c ≡ true) → (n || b) ≡ true → (n || c) ≡ true
or-weaker true b c f h = refl
or-weaker false b c f h = f h

-- The first token of a list stays marked if its rest begins with a Mark still.
first-marked : (t : Token) (us vs : List Token) → (begins_with_mark us ≡ true → begins_with_mark vs ≡ true)
    → (marks_follow us ≡ true → marks_follow vs ≡ true) → marks_follow (t ∷ us) ≡ true → marks_follow (t ∷ vs) ≡ true
first-marked t us vs begins follow h =
    let p = and_parts (not (needs_mark t) || begins_with_mark us) (marks_follow us) h in
    and_from (not (needs_mark t) || begins_with_mark vs) (marks_follow vs)
    (or-weaker (not (needs_mark t)) (begins_with_mark us) (begins_with_mark vs) begins p.0) (follow p.1)

begins-append : (xs ys : List Token) → begins_with_mark xs ≡ true → begins_with_mark (xs ++ ys) ≡ true
begins-append [] ys h = cc
begins-append (x ∷ xs) ys h = h

marks-append : (xs ys : List Token) → marks_follow xs ≡ true → marks_follow ys ≡ true → marks_follow (xs ++ ys) ≡ true
marks-append [] ys h g = g
marks-append (x ∷ xs) ys h g =
    first-marked x xs (xs ++ ys) (begins-append xs ys) (λ k. marks-append xs ys k g) h

begins-join : (xs ys : List Token) → begins_with_mark (xs ++ ys) ≡ true → begins_with_mark (xs ++ Join ∷ []) ≡ true
begins-join [] ys h = refl
begins-join (x ∷ xs) ys h = h

-- After a prefix a Join may come in place of the rest.
marks-join : (xs ys : List Token) → marks_follow (xs ++ ys) ≡ true → marks_follow (xs ++ Join ∷ []) ≡ true
marks-join [] ys h = refl
marks-join (x ∷ xs) ys h =
    first-marked x (xs ++ ys) (xs ++ Join ∷ []) (begins-join xs ys) (marks-join xs ys) h

abbrev IsMarked : Part → Type 0
IsMarked p = is_c_part p.kind ≡ true → marks_follow p.tokens ≡ true

abbrev IsOpenMarked : Option Part → Type 0
IsOpenMarked None = Unit {0}
IsOpenMarked (Some p) = IsMarked p

abbrev AreMarked : ScanState → Type 0
AreMarked s = All IsMarked s.contents.parts.closed × IsOpenMarked s.contents.parts.current

pushed : (t : Token) (o : Option Part) → marks_follow (t ∷ []) ≡ true → IsOpenMarked o
    → IsOpenMarked (option_map (part_with_token t) o)
pushed t None ok h = tt
pushed t (Some p) ok h = λ c. marks-append p.tokens (t ∷ []) (h c) ok

pushed_two : (t u : Token) (o : Option Part) → marks_follow (t ∷ u ∷ []) ≡ true → IsOpenMarked o
    → IsOpenMarked (option_map (part_with_token u) (option_map (part_with_token t) o))
pushed_two t u None ok h = tt
pushed_two t u (Some p) ok h =
    λ c. ap marks_follow (append_assoc p.tokens (t ∷ []) (u ∷ [])) ∙ marks-append p.tokens (t ∷ u ∷ []) (h c) ok

joined : (o : Option Part) → IsOpenMarked o
    → IsOpenMarked (option_map (part_with_token Join) (option_map without_layout o))
joined None h = tt
joined (Some p) h = λ c.
    let k = only_layout_is_dropped.dropped p in
    marks-join (without_layout p).tokens k.rest (ap marks_follow (sym k.splits) ∙ h c)

at_close-marked : (p : Part) → IsMarked p → IsMarked (at_close p)
at_close-marked p h = (elim (is_macro p.kind) as (λ v. is_macro p.kind ≡ v
    → IsMarked (if v then record p { tokens = without_blank (without_last is_newline p.tokens) } else p)) [
      | true ↦ λ e c. let bad : false ≡ true = ap not (sym e) ∙ c in cc
      | false ↦ λ e. h
    ]) refl

all-marked : (ps : List Part) (o : Option Part) → All IsMarked ps → IsOpenMarked o
    → All IsMarked (ps ++ option_to_list o)
all-marked ps None a h = subst (All IsMarked) (sym (append-nil ps)) a
all-marked ps (Some p) a h = All-push IsMarked ps p a h

closed : (ps : List Part) (o : Option Part) → All IsMarked ps → IsOpenMarked o
    → All IsMarked (ps ++ option_to_list (option_map at_close o))
closed ps None a h = subst (All IsMarked) (sym (append-nil ps)) a
closed ps (Some p) a h = All-push IsMarked ps (at_close p) a (at_close-marked p h)

small_marked : (t : Token) → IsSmall t → marks_follow (t ∷ []) ≡ true
small_marked (Name n) h = absurd h
small_marked Defs h = absurd h
small_marked t h = refl

stays_marked : Preserves AreMarked
stays_marked = record {
  emits = λ t s small h. (h.0, pushed t s.contents.parts.current (small_marked t small) h.1);
  reports = λ k p s h. h;
  moves = λ p s h. h;
  replaces = λ x s h. h;
  folds = λ v s h. h;
  drops = λ begun s e h. h;
}

end-marked : (s : ScanState) → AreMarked s → AreMarked (end_part s)
end-marked s h = (closed s.contents.parts.closed s.contents.parts.current h.0 h.1, tt)

macro-marked : (c : Context) (s : ScanState) → AreMarked s → AreMarked (end_macro_in c s)
macro-marked Macro s h = end-marked s h
macro-marked _ s h = h

begin-marked : (kind : PartKind) (s : ScanState) → AreMarked s → AreMarked (begin_part kind s)
begin-marked kind s h = (h.0, λ c. refl)

leave-marked : (c : Context) (s : ScanState) → AreMarked s → AreMarked (leave_in c s)
leave-marked Macro s h = end-marked s h
leave-marked CText s h =
    end-marked (emit (Tail s.sections) s) (h.0, pushed (Tail s.sections) s.contents.parts.current refl h.1)
leave-marked _ s h = h

effect-marked : (e : Effect) (s : ScanState) → AreMarked s → AreMarked (apply_effect e s)
effect-marked Define s h = macro-marked s.context s h
effect-marked Format s h = macro-marked s.context s h
effect-marked Program s h = begin-marked part.Unnamed (end_macro_in s.context s) (macro-marked s.context s h)
effect-marked InsertDefs s h = (h.0, pushed_two Defs (Mark s.here) s.contents.parts.current refl h.1)
effect-marked Joins s h = (h.0, joined s.contents.parts.current h.1)
effect-marked EmitAt s h = (h.0, pushed (Punct (codes "@")) s.contents.parts.current refl h.1)
effect-marked (Faulty k) s h = h
effect-marked _ s h = h

define-marked : (bytes : List ℕ) (tight : Bool) (s : ScanState) → AreMarked s → AreMarked (define bytes tight s)
define-marked bytes true s h = (h.0, λ c. refl)
define-marked bytes false s h = (h.0, λ c. refl)

use-marked : (n : NameRef) (opens : Bool) (p : Place) (s : ScanState) → AreMarked s → AreMarked (use_name n opens p s)
use-marked n true p s h = (h.0, pushed_two (Name n) (Mark s.here) s.contents.parts.current refl h.1)
use-marked n false p s h = (h.0, pushed_two (Name n) (Mark s.here) s.contents.parts.current refl h.1)

open-marked : (n : NameRef) (opens : Bool) (s : ScanState) → AreMarked s → AreMarked (open_name n opens s)
open-marked n true s h = begin-marked (part.Named n) (end_macro_in s.context s) (macro-marked s.context s h)
open-marked n false s h = macro-marked s.context s h

context-marked : (c : Context) (n : NameRef) (opens : Bool) (p : Place) (s : ScanState) → AreMarked s
    → AreMarked (name_in_context c n opens p s)
context-marked TeX n opens p s h = open-marked n opens s h
context-marked Macro n opens p s h = open-marked n opens s h
context-marked CText n opens p s h = use-marked n opens p s h
context-marked _ n opens p s h = h

fault-marked : (how : End) (p : Place) (s : ScanState) → AreMarked s → AreMarked (report_name_fault how p s)
fault-marked Cut p s h = h
fault-marked _ p s h = h

item-marked : (k : Kind) (bytes : List ℕ) (r : Reading) → AreMarked r.state → AreMarked (item k bytes r).state
item-marked (Section starred) bytes r h = leave-marked r.state.context r.state h
item-marked (Code effect) bytes r h = effect-marked effect r.state h
item-marked (Occurrence is_file units how opens) bytes r h =
    let m = (each_line_end move_to bytes r).state in
    let a = add_name (name_occurrence is_file (unescaped units)) m in
    context-marked m.context _ opens r.state.here (report_name_fault how r.state.here a)
    (fault-marked how r.state.here a (moved stays_marked bytes r h))
item-marked (Defined tight) bytes r h = define-marked bytes tight r.state h
item-marked Skipped bytes r h = item-holds stays_marked Skipped bytes r tt h
item-marked k bytes r h = item-holds stays_marked k bytes r tt h

lexemes-marked : (ps : List Lexeme) (r : Reading) → AreMarked r.state → AreMarked (fold after_lexeme r ps).state
lexemes-marked [] r h = h
lexemes-marked (p ∷ ps) r h = lexemes-marked ps (after_lexeme r p)
    (item-marked p.kind p.bytes (record r { state = enter p.kind r.state }) (enter-holds stays_marked p.kind r.state h))

pub marks_follow_uses : (lines : List Line) → MarksFollowUses lines
marks_follow_uses [] = All-nil IsMarked
marks_follow_uses (line ∷ lines) =
    let s = (fold after_lexeme (source_start line lines) (lexemes_of_lines (line ∷ lines))).state in
    let h = leave-marked s.context s
    (lexemes-marked (lexemes_of_lines (line ∷ lines)) (source_start line lines) (All-nil IsMarked, tt)) in
    all-marked (leave s).contents.parts.closed (leave s).contents.parts.current h.0 h.1
