-- C text outside directives: lexemes that their first byte doesn't determine.
use Rattle.cweb_scan.proofs.Common.{◌≡◌, ◌≤◌, ℕ, zero, suc, ◌+◌, Bool, false, ◌&&◌, not, List, [], ◌∷◌, Option, Some, None, length, take, drop, refl, ap, sym, ◌∙◌, arith, if◌then◌else◌, codes, Token, Number, Punct, Blank, begins, first_is, at_line_end, in_c, reach, reach_size, match_in, comment_match, look_in_comment, IsLine, is_unclosed, opens_in, reached, c_rule, c_match_by, listed, longest, number_len, Context, CText, End, Closed, Cut, Open, Reached, Look, Rule, Reading, blank, pass_comment, comment_line_end, directive, is_c, names_include, Applies, ended_as, is_head, TakesPlain, ScanState, emit, and-false, some_include, is_last_blank, is_some, IsPlainC, IsPlainToken}
use Rattle.cweb_rules.specs.inner.Rules.{stops_plain}
use Rattle.cweb_rules.specs.declared.items.Item.TheVariants as item
use Rattle.std.proofs.lemmas.Bool.{or_parts}
use Rattle.cweb_rules.specs.declared.rule.Rule.TheVariants as rule
use Rattle.cweb_scan.proofs.InLineItemSteps.{closed_at}
use Rattle.cweb_scan.proofs.Ends.{how-at_end, line_comment_yields, none_to_come, size-at_end}
use Rattle.cweb_scan.proofs.PendingComments.{comment_goes_on}
use Rattle.cweb_scan.proofs.Plains.{none_open, rule_at, turn}
use Rattle.cweb_rules.proofs.FirstRules.{c_opens-by}
use Rattle.cweb_rules.specs.inner.LineItems.{opens_by}
use Rattle.cweb_scan.proofs.FirstMatchTaken.{between}
use Rattle.cweb_rules.proofs.Longest.{longest_pos}
use Rattle.cweb_rules.proofs.PlainSpans.{turned}

none_included : (o : Option (List Token)) → is_some o ≡ false → some_include o ≡ false
none_included None h = refl
none_included (Some ts) h = cc

-- Outside directives an included name is no rule.
rule_plain : (s : ScanState) (u : List ℕ) (r : Rule) → IsPlainC s → r ≡ c_rule false u → r ≡ rule_at s u
rule_plain s u r h is = grind (arith, none_included, none_open, and-false)

ends_by : (c : Context) (includes : Bool) (u : List ℕ) (r : Rule) → c ≡ CText → r ≡ c_rule (is_c c && includes) u
    → opens_by in_c u r ≡ false → (match_in c includes u ≡ c_match_by in_c false u r) × (opens_in c u ≡ false)
ends_by CText includes u r h is ends =
    (ap (c_match_by in_c false u) (sym is), c_opens-by in_c includes u ∙ ap (opens_by in_c u) (sym is) ∙ ends)
ends_by _ includes u r h is ends = cc

-- An item that may continue after its line, but ends in it.
pub ended_turn : (n : ℕ) (u : List ℕ) (s new : ScanState) (r : Rule) → IsLine u → 1 ≤ length u → IsPlainC s → r
    ≡ c_rule false u → opens_by in_c u r ≡ false → Applies (c_match_by in_c false u r) u n s new → TakesPlain n u s new
ended_turn n u s new r line some h is ends yields =
    let f = ends_by s.context (names_include s) u r h.in_c (rule_plain s u r h is) ends in
    record {
      taken = λ g. (closed_at n u (between s g) (between s g) new (c_match_by in_c false u r) refl refl
          (ap is_head h.in_c) line some f.0 f.1 yields).taken;
    }

pub number_turn : (n : ℕ) (u : List ℕ) (s new : ScanState) → IsLine u → 1 ≤ length u → IsPlainC s
    → rule.Number ≡ c_rule false u → n ≡ number_len 0 u → new ≡ emit (Number (take n u)) s → TakesPlain n u s new
number_turn n u s new line some h is size made = grind (arith, turn, rule_plain)

pub seen_word : (s : ScanState) (u : List ℕ) → IsPlainC s → rule.Identifier ≡ c_rule false u
    → rule.Identifier ≡ rule_at s u
seen_word s u h is = rule_plain s u rule.Identifier h is

pub operator_turn : (n : ℕ) (u : List ℕ) (s new : ScanState) → IsLine u → 1 ≤ length u → IsPlainC s
    → rule.Punctuator ≡ c_rule false u → n ≡ longest listed u
    → new ≡ record (emit (Punct (take n u)) s) { folded = false } → TakesPlain n u s new
operator_turn n u s new line some h is size made = grind (arith, turn, rule_plain)

plain_punct : (n b : ℕ) (t : List ℕ) → stops_plain b ≡ false → IsPlainToken (Punct (take (suc n) (b ∷ t)))
plain_punct n b t kept = grind (arith, or_parts, turned)

pub operator_token : (n : ℕ) (u : List ℕ) → n ≡ longest listed u → 1 ≤ length u → first_is stops_plain u ≡ false
    → IsPlainToken (Punct (take n u))
operator_token n [] size some kept = absurd (omega (arith, some))
operator_token zero (b ∷ t) size some kept = absurd (omega (arith, size, longest_pos listed (b ∷ t)))
operator_token (suc n) (b ∷ t) size some kept = plain_punct n b t kept

blank_is : (s : ScanState) → IsPlainC s → blank s ≡ s
blank_is s h = ap (λ v. if v && not (is_last_blank (directive s).last) then emit Blank s else s) h.outside

pub line_comment_turn : (u : List ℕ) (s : ScanState) (r : Reached) → IsLine u → 1 ≤ length u → IsPlainC s
    → rule.LineComment ≡ c_rule false u → r ≡ reached (reach (look_in_comment at_line_end 0) Open (drop 2 u))
    → r.how ≡ Open → TakesPlain (2 + (r.size + r.close)) u s s
line_comment_turn u s r line some h is reach ends = turn (2 + (r.size + r.close)) u
    s s rule.LineComment line some h.in_c (rule_plain s u rule.LineComment h is) refl (line_comment_yields u r s s reach
    (sym (blank_is s h) ∙ ap (λ (e : End). pass_comment (ended_as Closed e) s.here (blank s)) (sym ends)))

abbrev comment_look : List ℕ → Look
comment_look = look_in_comment (begins (codes "*/")) 2

comment_yields : (t : List ℕ) (r : Reached) (s : ScanState) → r ≡ reached (reach comment_look Open (drop 2 t))
    → r.how ≡ Closed → blank s ≡ s → Applies (comment_match t) t (2 + (r.size + r.close)) s s
comment_yields t r s is closed stays =
    let look = comment_look in
    let m = reach look Cut (drop 2 t) in
    let how : m.how ≡ Closed = sym (how-at_end item.Comment Cut (drop 2 t) r is) ∙ ap (ended_as Cut) closed in
    record {
      size = ap (λ k. 2 + k) (size-at_end item.Comment Cut (drop 2 t) r is);
      state = sym stays ∙ ap (λ (e : End). pass_comment e s.here (blank s)) (sym how)
          ∙ ap (λ (q : Reading). pass_comment m.how s.here q.state)
          (sym (none_to_come comment_line_end (take (2 + reach_size m) t) (blank s)));
    }

pub comment_turn : (u : List ℕ) (s : ScanState) (r : Reached) → IsLine u → 1 ≤ length u → IsPlainC s
    → rule.Comment ≡ c_rule false u → r ≡ reached (reach (look_in_comment (begins (codes "*/")) 2) Open (drop 2 u))
    → r.how ≡ Closed → TakesPlain (2 + (r.size + r.close)) u s s
comment_turn u s r line some h is reach closed =
    ended_turn (2 + (r.size + r.close)) u s s rule.Comment line some h is
    (comment_goes_on (drop 2 u) ∙ sym (ap (λ (v : Reached). is_unclosed v.how) reach) ∙ ap is_unclosed closed)
    (comment_yields u r s reach closed (blank_is s h))
