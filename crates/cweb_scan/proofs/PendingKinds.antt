-- Pending items of any kind, with the next line.
use Rattle.cweb_scan.proofs.Common.{◌≡◌, ◌≤◌, ℕ, ◌+◌, Bool, true, false, List, [], ◌∷◌, ◌++◌, length, refl, ap, sym, ◌∙◌, subst, arith, codes, length-append, Place, begins, at_line_ends, look_in_comment, look_in_name, look_in_literal, look_in_raw, opens_in, IsLine, AtLineEnd, Context, literal_prefix, enter_in, next_match, RuleMatch, ScanState, is_between, IsItem, IsPending, IsPast, starts_name, takes_opener, with_line, AppliesOver, lex, ◌-◌, comment_match, name_match, literal_match, raw_match, HasItemRoom, CanTake, ReaderModel, Pending, cost, too_many, ◌<◌}
use Rattle.cweb_scan.proofs.OpeningSteps.{opened}
use Rattle.cweb_rules.specs.inner.LineItems.{goes_on, opens_comment, opens_name, opens_literal, opens_raw}
use Rattle.cweb_rules.specs.inner.LineItems.{raw_closer_of}
use Rattle.cweb_rules.proofs.LineDelimiters.{starts_raw_line}
use Rattle.cweb_rules.proofs.LineLiterals.{starts_literal_line}
use Rattle.cweb_rules.proofs.TokenSizes.{is_quoted-size}
use Rattle.cweb_rules.proofs.Sizes.{begins-size}
use Rattle.std.proofs.Common.{take_all}
use Rattle.cweb_scan.specs.declared.reader.open.Open as code
use Rattle.cweb_scan.specs.declared.reader.open.Open.TheVariants.{Between, Comment, Name, Literal, RawLiteral}
use Rattle.cweb_scan.proofs.PendingItems.{IsNext, newlines_fit, with_line-is, begins_more, pending_newlines, all_newlines, pending_finished}
use Rattle.cweb_scan.proofs.WholeItems.{TakesWhole, takes_whole}
use Rattle.cweb_scan.proofs.PendingComments.{is_comment, comment_over, comment_ended}
use Rattle.cweb_scan.proofs.PendingNames.{is_name, name_two, name_over, name_ended}
use Rattle.cweb_scan.proofs.PendingLiterals.{is_raw, is_literal, raw_fits, raw_over, raw_ended, literal_over, literal_ended, quote_in}
use Rattle.cweb_scan.proofs.LiteralOpeners.{past-line}
use Rattle.cweb_scan.proofs.TakenItems.{reading}

pub item_some : (kind : code.Open) (c : Context) (u : List ℕ) → is_between kind ≡ false → IsItem kind c u → 1 ≤ length u
item_some Between c u h i = cc
item_some Comment c u h i = omega (arith, begins-size (codes "/*") u i.1)
item_some Name c u h i = omega (arith, name_two u i.2)
item_some Literal c u h i = omega (arith, is_quoted-size (literal_prefix u) u i.3)
item_some RawLiteral c u h i = omega (arith, raw_fits u i.2)

past_more : (w more : List ℕ) → AtLineEnd more → 1 ≤ length w → IsPast w → IsPast (w ++ more)
past_more [] more e some p = absurd (omega (arith, some))
past_more (b ∷ t) more e some p = past-line b t more e p

name_more : (w more : List ℕ) → starts_name w ≡ true → starts_name (w ++ more) ≡ true
name_more w more h = grind (arith, more, begins_more)

more : (kind : code.Open) (c : Context) (w line : List ℕ) → is_between kind ≡ false → IsItem kind c w
    → IsItem kind c (w ++ 10 ∷ line)
more Between c w line h i = cc
more Comment c w line h i = (i.0, begins_more (codes "/*") w (10 ∷ line) i.1)
more Name c w line h i = (i.0, i.1, name_more w (10 ∷ line) i.2)
more Literal c w line h i = grind (arith, past_more, item_some, starts_raw_line, starts_literal_line)
more RawLiteral c w line h i = grind (arith, past_more, item_some, starts_raw_line)

pub item_more : (kind : code.Open) (c : Context) (w line : List ℕ) → is_between kind ≡ false → IsItem kind c w
    → IsItem kind c (with_line w line)
item_more kind c w line h i = subst (IsItem kind c) (sym (with_line-is w line)) (more kind c w line h i)

-- Whether another line leaves it open.
abbrev pub stays_by : code.Open → List ℕ → List ℕ → Bool
stays_by Name w line = goes_on look_in_name line
stays_by Literal w line = goes_on (look_in_literal (quote_in w)) line
stays_by RawLiteral w line = goes_on (look_in_raw (raw_closer_of w)) line
stays_by kind w line = goes_on (look_in_comment (begins (codes "*/")) 2) line

-- What is known of an item by its source: its match, and whether it is open, also after another line.
pub record IsKnown (kind : code.Open) (s : ScanState) (w : List ℕ) : Type 0 where
  pub f : List ℕ → RuleMatch
  pub opens : List ℕ → Bool
  pub next : (u : List ℕ) → IsItem kind s.context u → IsNext s u (f u) (opens u)
  pub on : (line : List ℕ) → opens w ≡ true → opens (with_line w line) ≡ stays_by kind w line
  pub past : (line : List ℕ) → opens w ≡ true → length w + 1 ≤ (f (with_line w line)).size
  pub ended : opens w ≡ true → (f w).size ≡ length w

pub known : (kind : code.Open) (s : ScanState) (w : List ℕ) → is_between kind ≡ false → IsItem kind s.context w
    → IsKnown kind s w
known Between s w k i = cc
known Comment s w k i = record {
  f = comment_match;
  opens = opens_comment;
  next = λ u j. is_comment s u j.0 j.1;
  on = λ line h. (comment_over w line i.1 h).0;
  past = λ line h. omega (arith, (comment_over w line i.1 h).1);
  ended = λ h. comment_ended w i.1 h;
}
known Name s w k i = record {
  f = name_match (takes_opener s);
  opens = opens_name;
  next = λ u j. is_name s u j.0 j.1 j.2;
  on = λ line h. (name_over (takes_opener s) w line i.2 h).0;
  past = λ line h. (name_over (takes_opener s) w line i.2 h).1;
  ended = λ h. name_ended (takes_opener s) w i.2 h;
}
known Literal s w k i = record {
  f = literal_match;
  opens = opens_literal;
  next = λ u j. is_literal s u j.0 j.1 j.2 j.3;
  on = λ line h. (literal_over w line i.3 h).0;
  past = λ line h. omega (arith, (literal_over w line i.3 h).1);
  ended = λ h. literal_ended w i.3 h;
}
known RawLiteral s w k i = record {
  f = raw_match;
  opens = opens_raw;
  next = λ u j. is_raw s u j.0 j.1 j.2;
  on = λ line h. (raw_over w line i.2 h).0;
  past = λ line h. omega (arith, (raw_over w line i.2 h).1);
  ended = λ h. raw_ended w i.2 h;
}

item_stays : (kind : code.Open) (s : ScanState) (u : List ℕ) → is_between kind ≡ false → IsItem kind s.context u
    → enter_in s.context (next_match s u).kind s ≡ s
item_stays kind s u k i = ((known kind s u k i).next u i).stays

is_open : (kind : code.Open) (s : ScanState) (w : List ℕ) (ps : List Place) (k : is_between kind ≡ false)
    (h : IsPending kind s.context w ps) → (known kind s w k h.item).opens w ≡ true
is_open kind s w ps k h = sym ((known kind s w k h.item).next w h.item).opens_is ∙ h.unclosed

-- Whether the next line leaves it open.
pub stays_on : (kind : code.Open) (s : ScanState) (w line : List ℕ) (ps : List Place) (k : is_between kind ≡ false)
    (h : IsPending kind s.context w ps)
    → opens_in s.context (with_line w line) ≡ stays_by kind w line
stays_on kind s w line ps k h =
    let x = known kind s w k h.item in
    (x.next (with_line w line) (item_more kind s.context w line k h.item)).opens_is
    ∙ x.on line (is_open kind s w ps k h)

-- It extends over the newline before that line.
item_past : (kind : code.Open) (s : ScanState) (w line : List ℕ) (ps : List Place) → is_between kind ≡ false
    → IsPending kind s.context w ps → length w + 1 ≤ (next_match s (with_line w line)).size
item_past kind s w line ps k h =
    let x = known kind s w k h.item in
    omega (
      arith,
      ap (λ (f : RuleMatch). f.size)
          (x.next (with_line w line) (item_more kind s.context w line k h.item)).is,
      x.past line (is_open kind s w ps k h),
    )

-- The source's end ends it.
item_ended : (kind : code.Open) (s : ScanState) (w : List ℕ) (ps : List Place) → is_between kind ≡ false
    → IsPending kind s.context w ps → (next_match s w).size ≡ length w
item_ended kind s w ps k h =
    let x = known kind s w k h.item in
    ap (λ (f : RuleMatch). f.size) (x.next w h.item).is ∙ x.ended (is_open kind s w ps k h)

-- The code takes what it holds.
pub can_take : (kind : code.Open) (s : ScanState) (t u : List ℕ) (ps qs : List Place) → t ≡ u → ps ≡ qs
    → CanTake kind u qs s → CanTake kind t ps s
can_take kind s t u ps qs text places h = grind arith

pub applies_to : (s new : ScanState) (t u : List ℕ) (ps qs : List Place) (n : ℕ) → t ≡ u → ps ≡ qs
    → AppliesOver (next_match s t) t ps n s new → AppliesOver (next_match s u) u qs n s new
applies_to s new t u ps qs n text places h = grind arith

-- The item with a line that leaves it open.
pub stays_with : (kind : code.Open) (s : ScanState) (w line : List ℕ) (ps : List Place) (q : Place)
    → is_between kind ≡ false → IsPending kind s.context w ps → IsLine line
    → opens_in s.context (with_line w line) ≡ true → IsPending kind s.context (with_line w line) (ps ++ q ∷ [])
stays_with kind s w line ps q k h clean opens = grind (arith, item_more, all_newlines, length-append)

-- The item with a line that ends it.
pub record EndsWith (kind : code.Open) (s : ScanState) (w line : List ℕ) (ps : List Place) (q : Place) : Type 0 where
  pub size : ℕ
  pub past : (next_match s (with_line w line)).size ≡ length w + 1 + size
  pub ready : HasItemRoom (length ps + 3) s → CanTake kind (with_line w line) (ps ++ q ∷ []) s
  pub taken : (n : ℕ) (new : ScanState)
      → AppliesOver (next_match s (with_line w line)) (with_line w line) (ps ++ q ∷ [])
      n s new → TakesWhole n (with_line w line) (ps ++ q ∷ []) s new

pub ends_with : (kind : code.Open) (s : ScanState) (w line : List ℕ) (ps : List Place) (q : Place)
    → is_between kind ≡ false → IsPending kind s.context w ps → IsLine line
    → opens_in s.context (with_line w line) ≡ false → EndsWith kind s w line ps q
ends_with kind s w line ps q k h clean ends =
    let u = with_line w line in
    let i = item_more kind s.context w line k h.item in
    let m = (next_match s u).size - (length w + 1) in
    let size : (next_match s u).size ≡ length w + 1 + m = omega (arith, item_past kind s w line ps k h) in
    let longer = length-append ps (q ∷ []) in
    record {
      size = m;
      past = size;
      ready = grind (arith, pending_newlines);
      taken = λ n new applies. takes_whole s new u (ps ++ q ∷ []) n (next_match s u)
          (item_some kind s.context u k i) (item_stays kind s u k i) refl ends applies;
    }

-- The item that the source's end ends.
pub ends_source : (kind : code.Open) (s new : ScanState) (w : List ℕ) (ps : List Place) (n : ℕ)
    → is_between kind ≡ false → IsPending kind s.context w ps → AppliesOver (next_match s w) w ps n s new
    → new ≡ (lex (reading s (ps ++ [])) (w ++ [])).state
ends_source kind s new w ps n k h applies = pending_finished s new w ps n (next_match s w)
    (item_some kind s.context w k h.item) (item_stays kind s w k h.item) refl (item_ended kind s w ps k h) applies

pub ready_at_end : (kind : code.Open) (s : ScanState) (w : List ℕ) (ps : List Place) → is_between kind ≡ false
    → IsPending kind s.context w ps → HasItemRoom (length ps + 2) s → CanTake kind w ps s
ready_at_end kind s w ps k h room = grind (arith, item_ended, take_all)

-- The room that a pending item has.
pub pending_room : (h : ReaderModel) (s : ScanState) (g : Bool) (w : List ℕ) (ps : List Place) (n : ℕ)
    → opened s g (Pending w ps) ≡ h → at_line_ends 1 w ≡ length ps → 1 ≤ n → cost h + n < too_many
    → HasItemRoom (length ps + n) s
pending_room h s g w ps n view lines some room = grind (arith, newlines_fit)

pub is_comment_kind : (kind : code.Open) → is_between kind ≡ false → (kind ≡ Name → ⊥) → (kind ≡ Literal → ⊥)
    → (kind ≡ RawLiteral → ⊥) → kind ≡ Comment
is_comment_kind Between h n l r = cc
is_comment_kind Comment h n l r = refl
is_comment_kind Name h n l r = absurd (n refl)
is_comment_kind Literal h n l r = absurd (l refl)
is_comment_kind RawLiteral h n l r = absurd (r refl)
