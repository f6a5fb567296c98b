-- The code's directive state follows the directive of the tokens.
use Rattle.cweb_scan.proofs.Common.{◌≡◌, Bool, true, false, not, List, [], ◌∷◌, ◌++◌, Option, Some, None, refl, ap, sym, ◌∙◌, codes, bytes_eq, if◌then◌else◌, Token, Word, Punct, Blank, Newline, Stage, is_some, arith}
use Rattle.std.proofs.lemmas.List.Sums.{fold-append}
use Rattle.cweb_scan.specs.declared.directive.Stage.TheVariants.{Outside, Bare, Include, Further}
use Rattle.cweb_scan.specs.State.{is_bare_include, is_punct, ends_line, directive_tokens, directive_after, directive_of, some_include, is_line_continued}
use Rattle.cweb_scan.specs.inner.ScanParts.{is_bare, last_kind, maybe_last_kind, stage_of, directive_model}
use Rattle.cweb_scan.specs.inner.ScanParts.{is_after_line_end, is_after_backslash, is_outside, is_bare_stage}
use Rattle.cweb_scan.specs.inner.ScanParts.{is_include_stage, next_open_stage, next_stage, after_token}
use Rattle.cweb_scan.specs.declared.directive.Last.TheVariants as last
use Rattle.cweb_scan.specs.State as spec
use Rattle.cweb_scan.specs.inner.ScanParts as kept

other_last : (v : Bool) → is_after_line_end (if v then last.Backslash else last.Other) ≡ false
other_last true = refl
other_last false = refl

backslash_last : (v : Bool) → is_after_backslash (if v then last.Backslash else last.Other) ≡ v
backslash_last true = refl
backslash_last false = refl

ends-seen : (o : Option Token) → is_after_line_end (maybe_last_kind o) ≡ ends_line o
ends-seen None = refl
ends-seen (Some (Punct b)) = other_last (bytes_eq b (codes "\\"))
ends-seen (Some Newline) = refl
ends-seen (Some _) = refl

pub backslash-seen : (o : Option Token) → is_after_backslash (maybe_last_kind o) ≡ is_punct (codes "\\") o
backslash-seen None = refl
backslash-seen (Some (Punct b)) = backslash_last (bytes_eq b (codes "\\"))
backslash-seen (Some Newline) = refl
backslash-seen (Some _) = refl

over-seen : (o : Option Token) (t : Token) → kept.continues_line (maybe_last_kind o) t ≡ is_line_continued o t
over-seen o Newline = backslash-seen o
over-seen o _ = refl

stage_when : (v : Bool) → stage_of (if v then Some [] else None) ≡ (if v then Bare else Outside)
stage_when true = refl
stage_when false = refl

not_outside : (a b : Bool) → is_outside (if a then Bare else (if b then Include else Further)) ≡ false
not_outside false true = refl
not_outside _ _ = refl

bare_is : (a b : Bool) → is_bare_stage (if a then Bare else (if b then Include else Further)) ≡ a
bare_is false true = refl
bare_is _ _ = refl

stage_of_some : (ts : List Token) (t : Token) → stage_of (Some (t ∷ ts)) ≡ next_open_stage (stage_of (Some ts)) t
stage_of_some ts (Word b) = grind (arith, bare_is)
stage_of_some ts _ = refl

choice : (v : Bool) (ts : List Token) (t : Token)
    → stage_of (if v then None else Some (t ∷ ts)) ≡ (if v then Outside else next_open_stage (stage_of (Some ts)) t)
choice true ts t = refl
choice false ts t = stage_of_some ts t

stage-seen : (o : Option (List Token)) (l : Option Token) (t : Token)
    → stage_of (directive_tokens o l t) ≡ next_stage (record { stage = stage_of o; last = maybe_last_kind l }) t
stage-seen None l t = grind (arith, stage_when, ends-seen)
stage-seen (Some ts) l t = grind (arith, choice, ends-seen, over-seen, not_outside)

step-seen : (d : spec.Directive) (t : Token) → directive_model (directive_after d t) ≡ after_token (directive_model d) t
step-seen d t = ap (λ (g : Stage). record { stage = g; last = last_kind t }) (stage-seen d.tokens d.last t)

pub directive-pushed : (ts : List Token) (t : Token)
    → directive_model (directive_of (ts ++ t ∷ [])) ≡ after_token (directive_model (directive_of ts)) t
directive-pushed ts t = ap directive_model (fold-append directive_after _ ts (t ∷ [])) ∙ step-seen (directive_of ts) t

bare_includes : (ts : List Token) → is_bare ts ≡ true → is_bare_include ts ≡ false
bare_includes [] h = refl
bare_includes (Blank ∷ ts) h = bare_includes ts h
bare_includes (Word b ∷ ts) h = cc
bare_includes (_ ∷ ts) h = refl

include_when : (a b : Bool) → (a ≡ true → b ≡ false)
    → is_include_stage (if a then Bare else (if b then Include else Further)) ≡ b
include_when true b h = sym (h refl)
include_when false true h = refl
include_when false false h = refl

pub include-seen : (o : Option (List Token)) → is_include_stage (stage_of o) ≡ some_include o
include-seen None = refl
include-seen (Some ts) = include_when (is_bare ts) (is_bare_include ts) (bare_includes ts)

pub outside-seen : (o : Option (List Token)) → not (is_outside (stage_of o)) ≡ is_some o
outside-seen None = refl
outside-seen (Some ts) = ap not (not_outside (is_bare ts) (is_bare_include ts))
