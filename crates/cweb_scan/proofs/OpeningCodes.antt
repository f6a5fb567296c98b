-- No code begins a definition or a part in limbo or in C text.
use Rattle.cweb_scan.proofs.Common.{◌≡◌, ℕ, Bool, true, false, List, [], ◌∷◌, Option, Some, None, refl, sym, subst, if◌then◌else◌, codes, begins, starts_section, Rule, c_rule, c_match_by, Effect, Define, Program, in_c, Context, Limbo, TeX, Definition, Macro, CText, Kind, RuleMatch, Code, match_in, section_match, code_match, effect_match, found_letter_match, c_match, tex_match, ScanState, drop_definition, stays_in_head, enter_in, enter, drop}
use Rattle.cweb_rules.specs.Constants.{letter}
use Rattle.cweb_rules.specs.declared.constants.Transliteration.{Transliteration}
use Rattle.cweb_rules.specs.declared.effect.Effect.TheVariants as effect
use Rattle.cweb_rules.specs.Bytes.{lower}
use Rattle.cweb_rules.specs.Edges.{is_one_of}
use Rattle.cweb_rules.specs.declared.rule.Rule.TheVariants as rule
use Rattle.cweb_rules.specs.Codes.{CodeEntry, code_table, entry_for, in_limbo}

-- The code begins a definition or a part.
abbrev pub is_opening : Effect → Bool
is_opening Define = true
is_opening Program = true
is_opening e = false

abbrev pub opens_kind : Kind → Bool
opens_kind kind = elim kind [ Code e ↦ is_opening e | _ ↦ false ]

if-quiet : (v : Bool) (x y : RuleMatch) → opens_kind x.kind ≡ false → opens_kind y.kind ≡ false
    → opens_kind (if v then x else y).kind ≡ false
if-quiet true x y f g = f
if-quiet false x y f g = g

letter-quiet : (o : Option Transliteration) (t : List ℕ) → opens_kind (found_letter_match o t).kind ≡ false
letter-quiet None t = refl
letter-quiet (Some l) t = refl

effect-quiet : (e : Effect) (takes : Bool) (t : List ℕ) → is_opening e ≡ false
    → opens_kind (effect_match e takes t).kind ≡ false
effect-quiet effect.Letter takes t h = letter-quiet (letter (drop 2 t)) t
effect-quiet effect.Named takes t h = refl
effect-quiet effect.ControlText takes t h = refl
effect-quiet effect.Verbatim takes t h = refl
effect-quiet effect.Constant takes t h = refl
effect-quiet e takes t h = h

code-quiet : (f : ℕ → Effect) → ((b : ℕ) → is_opening (f b) ≡ false) → (takes : Bool) (t : List ℕ)
    → opens_kind (code_match f takes t).kind ≡ false
code-quiet f quiet takes [] = refl
code-quiet f quiet takes (a ∷ []) = refl
code-quiet f quiet takes (a ∷ b ∷ t) = effect-quiet (f b) takes (a ∷ b ∷ t) (quiet b)

section-quiet : (t : List ℕ) → opens_kind (section_match t).kind ≡ false
section-quiet t = if-quiet (begins (codes "@*") t) _ _ refl refl

tex-quiet : (f : ℕ → Effect) → ((b : ℕ) → is_opening (f b) ≡ false) → (t : List ℕ)
    → opens_kind (tex_match f t).kind ≡ false
tex-quiet f quiet t = if-quiet (starts_section t) _ _ (section-quiet t)
    (if-quiet (begins (codes "@") t) _ _ (code-quiet f quiet true t) refl)

c-quiet : (f : ℕ → Effect) → ((b : ℕ) → is_opening (f b) ≡ false) → (takes includes : Bool) (t : List ℕ)
    → opens_kind (c_match f takes includes t).kind ≡ false
c-quiet f quiet takes includes t = by (c_rule includes t)
  where
    by : (r : Rule) → opens_kind (c_match_by f takes t r).kind ≡ false
    by rule.Section = section-quiet t
    by rule.Code = code-quiet f quiet takes t
    by rule.Blanks = refl
    by _ = refl

either-quiet : (v : Bool) (x y : Effect) → is_opening x ≡ false → is_opening y ≡ false
    → is_opening (if v then x else y) ≡ false
either-quiet true x y f g = f
either-quiet false x y f g = g

limbo-quiet : (b : ℕ) → is_opening (in_limbo b) ≡ false
limbo-quiet b = either-quiet (is_one_of (codes "@fs") (lower b)) _ _ refl
    (either-quiet (is_one_of (codes "q") (lower b)) _ _ refl
    (either-quiet (is_one_of (codes "l") (lower b)) _ _ refl refl))

abbrev AreQuiet : List CodeEntry → Type 0
AreQuiet [] = Unit {0}
AreQuiet (r ∷ rs) = (is_opening r.in_c ≡ false) × AreQuiet rs

entry-quiet : (rs : List CodeEntry) (letter : ℕ) → AreQuiet rs → is_opening (entry_for rs letter).in_c ≡ false
entry-quiet [] letter h = refl
entry-quiet (r ∷ rs) letter h = elim (is_one_of r.letters letter)
    as (λ v. is_opening (if v then r else entry_for rs letter).in_c ≡ false)
    [ true ↦ h.0 | false ↦ entry-quiet rs letter h.1 ]

table-quiet : AreQuiet code_table
table-quiet = (refl, (refl, (refl, (refl, (refl, (refl, (refl, (refl, (refl, (refl, (refl, tt)))))))))))

c_code-quiet : (b : ℕ) → is_opening (in_c b) ≡ false
c_code-quiet b = entry-quiet code_table (lower b) table-quiet

-- The contexts in which no code begins a definition or a part.
abbrev pub Allows : Context → Kind → Type 0
Allows Limbo k = opens_kind k ≡ false
Allows CText k = opens_kind k ≡ false
Allows c k = Unit {0}

pub match-allowed : (c : Context) (includes : Bool) (t : List ℕ) → Allows c (match_in c includes t).kind
match-allowed Limbo includes t = tex-quiet in_limbo limbo-quiet t
match-allowed CText includes t = c-quiet in_c c_code-quiet false includes t
match-allowed TeX includes t = tt
match-allowed c includes t = tt

-- The context in which a lexeme is read.
abbrev pub AllowsEntered : Context → Kind → Type 0
AllowsEntered (Definition begun) k = opens_kind k ≡ false
AllowsEntered c k = Allows c k

head-quiet : (k : Kind) → stays_in_head k ≡ true → opens_kind k ≡ false
head-quiet (Code e) h = cc
head-quiet k h = refl

same-allowed : (c : Context) (k : Kind) (s : ScanState) → s.context ≡ c → AllowsEntered c k → AllowsEntered s.context k
same-allowed c k s e h = subst (λ d. AllowsEntered d k) (sym e) h

enter_in-allowed : (c : Context) (k : Kind) (s : ScanState) → s.context ≡ c → Allows c k
    → AllowsEntered (enter_in c k s).context k
enter_in-allowed (Definition begun) k s e h = (elim (stays_in_head k) as (λ v. stays_in_head k ≡ v
    → AllowsEntered (if v then s else drop_definition begun s).context k) [
      | true ↦ λ is. same-allowed (Definition begun) k s e (head-quiet k is)
      | false ↦ λ is. tt
    ]) refl
enter_in-allowed Limbo k s e h = same-allowed Limbo k s e h
enter_in-allowed CText k s e h = same-allowed CText k s e h
enter_in-allowed TeX k s e h = same-allowed TeX k s e h
enter_in-allowed Macro k s e h = same-allowed Macro k s e h

pub enter-allowed : (k : Kind) (s : ScanState) → Allows s.context k → AllowsEntered (enter k s).context k
enter-allowed k s h = enter_in-allowed s.context k s refl h
