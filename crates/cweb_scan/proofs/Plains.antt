-- C text outside directives: correctness of taking a lexeme that its first byte determines.
use Rattle.cweb_scan.proofs.Common.{◌≡◌, ◌≤◌, ℕ, true, false, ◌&&◌, List, Option, Some, None, length, take, refl, ap, sym, ◌∙◌, subst, if◌then◌else◌, codes, option_map, prefix_len, part_with_token, Token, Word, Punct, Newline, Part, is_blank, is_word_byte, in_c, IsLine, c_rule, c_match_by, Context, CText, Rule, directive, is_c, names_include, Applies, is_head, in_open_part, TakesPlain, ScanState, emit, tokens_of, directive_of, is_punct, is_some, IsTied, IsPlainC, IsPlainToken, Directive, Stage, Outside, arith}
use Rattle.std.proofs.lemmas.List.Sums.{fold-append}
use Rattle.cweb_scan.specs.inner.ScanParts.{is_outside}
use Rattle.cweb_scan.specs.inner.ScanParts.{new_directive, after_token}
use Rattle.cweb_scan.specs.inner.MatchSteps.{ends_macro_line}
use Rattle.std.proofs.lemmas.Bool.{not-false}
use Rattle.cweb_rules.specs.declared.rule.Rule.TheVariants as rule
use Rattle.cweb_scan.specs.declared.directive.Last.TheVariants as last
use Rattle.cweb_scan.proofs.InLineItemSteps.{closed_at}
use Rattle.cweb_scan.proofs.PlainFirsts.{IsSign}
use Rattle.cweb_scan.proofs.InLineRules.{closes, rule_closed}
use Rattle.cweb_scan.proofs.Steps.{outside-seen}
use Rattle.cweb_scan.proofs.TiedSteps.{tied_emitted}
use Rattle.cweb_scan.proofs.FirstMatchTaken.{between}

no_more : (o : Option Part) (t : Token) → is_some (directive_of (tokens_of o)).tokens ≡ false
    → is_punct (codes "#") (Some t) ≡ false
    → is_some (directive_of (tokens_of (option_map (part_with_token t) o))).tokens ≡ false
no_more None t h plain = h
no_more (Some p) t h plain = grind (arith, fold-append)

pub none_open : (s : ScanState) → IsPlainC s → is_some (directive s).tokens ≡ false
none_open s h = ap (λ (c : Context). is_c c && is_some (directive s).tokens) (sym h.in_c) ∙ h.outside

pub stays_plain : (s : ScanState) (t : Token) → IsPlainC s → IsPlainToken t → IsPlainC (emit t s)
stays_plain s t h plain = grind (arith, no_more, none_open)

stage_outside : (g : Stage) → is_outside g ≡ true → g ≡ Outside
stage_outside Outside h = refl
stage_outside _ h = cc

step_plain : (d : Directive) (t : Token) → is_outside d.stage ≡ true → IsPlainToken t → after_token d t ≡ new_directive
step_plain d t h plain = grind arith

-- The directive's state after a plain token.
pub tied_plain : (d l : Directive) (c : Context) (o : Option Part) (t : Token) → IsTied d l c o → is_c c ≡ true
    → in_open_part c ≡ true → is_some (directive_of (tokens_of o)).tokens ≡ false → IsPlainToken t
    → IsTied new_directive new_directive c (option_map (part_with_token t) o)
tied_plain d l c o t tied in_c part none plain =
    let is_out = ap (λ (e : Directive). is_outside e.stage) (tied.directive_is in_c)
    ∙ not-false _ (outside-seen (directive_of (tokens_of o)).tokens ∙ none) in
    let stepped = step_plain d t is_out plain in
    subst (λ (e : Directive). IsTied e new_directive c (option_map (part_with_token t) o)) stepped
    (subst (λ (e : Directive). IsTied (after_token d t) e c (option_map (part_with_token t) o))
    (ap (λ v. if v then l else after_token d t) plain.solid ∙ stepped) (tied_emitted d l c o t tied part))

-- The directive's state after a newline outside directives.
step_newline : (d : Directive) → is_outside d.stage ≡ true
    → after_token d Newline ≡ record { stage = d.stage; last = last.LineEnd }
step_newline d h = grind (arith, stage_outside)

pub tied_newline : (d l : Directive) (c : Context) (o : Option Part) → IsTied d l c o → is_c c ≡ true
    → in_open_part c ≡ true → is_some (directive_of (tokens_of o)).tokens ≡ false
    → IsTied (record { stage = d.stage; last = last.LineEnd }) l c (option_map (part_with_token Newline) o)
tied_newline d l c o tied in_c part none =
    let is_out = ap (λ (e : Directive). is_outside e.stage) (tied.directive_is in_c)
    ∙ not-false _ (outside-seen (directive_of (tokens_of o)).tokens ∙ none) in
    subst (λ (e : Directive). IsTied e l c (option_map (part_with_token Newline) o)) (step_newline d is_out)
    (tied_emitted d l c o Newline tied part)

-- The rule that applies in C text in a state.
abbrev pub rule_at : ScanState → List ℕ → Rule
rule_at s u = c_rule (is_c s.context && names_include s) u

pub turn : (n : ℕ) (u : List ℕ) (s new : ScanState) (r : Rule) → IsLine u → 1 ≤ length u → s.context ≡ CText
    → r ≡ rule_at s u → closes r ≡ true → Applies (c_match_by in_c false u r) u n s new → TakesPlain n u s new
turn n u s new r line some c_text is closed yields =
    let f = rule_closed s.context (names_include s) u r (ap in_open_part c_text)
    (ap (λ (c : Context). ends_macro_line c u) c_text) is closed in
    record {
      taken = λ g. (closed_at n u (between s g) (between s g) new (c_match_by in_c false u r) refl refl
          (ap is_head c_text) line some f.0 f.1 yields).taken;
    }

pub blanks_turn : (n : ℕ) (u : List ℕ) (s : ScanState) → IsLine u → 1 ≤ length u → IsPlainC s
    → rule.Blanks ≡ rule_at s u → n ≡ prefix_len is_blank u → TakesPlain n u s s
blanks_turn n u s line some h is size = grind (arith, turn)

pub word_turn : (n : ℕ) (u : List ℕ) (s new : ScanState) → IsLine u → 1 ≤ length u → s.context ≡ CText → rule.Identifier
    ≡ rule_at s u → n ≡ prefix_len is_word_byte u → new ≡ emit (Word (take n u)) s → TakesPlain n u s new
word_turn n u s new line some c_text is size made = grind (arith, turn)

pub sign_turn : (u : List ℕ) (s new : ScanState) → IsLine u → 1 ≤ length u → IsPlainC s → rule.Punctuator ≡ rule_at s u
    → IsSign u → new ≡ record (emit (Punct (take 1 u)) s) { folded = false } → TakesPlain 1 u s new
sign_turn u s new line some h is sign made = grind (arith, turn)
