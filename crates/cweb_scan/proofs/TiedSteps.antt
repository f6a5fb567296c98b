-- The invariant of the directive's state, and trailing layout.
use Rattle.cweb_scan.proofs.Common.{◌≡◌, true, false, List, [], ◌∷◌, ◌++◌, Option, Some, None, refl, ap, ◌∙◌, option_map, if◌then◌else◌, Token, Part, part_with_token, Context, in_open_part, is_macro, is_layout, before_last, without_last, without_layout, Directive, IsTied, arith}
use Rattle.cweb_scan.specs.inner.ScanParts.{after_token, after_tokens}
use Rattle.cweb_scan.proofs.Steps.{directive-pushed}

-- One more token of layout.
last_layout : (ts : List Token) (t : Token) → is_layout t ≡ true
    → without_last is_layout (ts ++ t ∷ []) ≡ without_last is_layout ts
last_layout [] t h = ap (λ v. if v then [] else t ∷ []) h
last_layout (x ∷ ts) t h = ap (before_last is_layout x) (last_layout ts t h)

before_some : (x : Token) (ts : List Token) (t : Token) → before_last is_layout x (ts ++ t ∷ []) ≡ x ∷ ts ++ t ∷ []
before_some x [] t = refl
before_some x (u ∷ ts) t = refl

-- One more token that isn't layout.
last_solid : (ts : List Token) (t : Token) → is_layout t ≡ false → without_last is_layout (ts ++ t ∷ []) ≡ ts ++ t ∷ []
last_solid [] t h = ap (λ v. if v then [] else t ∷ []) h
last_solid (x ∷ ts) t h = ap (before_last is_layout x) (last_solid ts t h) ∙ before_some x ts t

before_twice : (x : Token) (ts : List Token) → without_last is_layout ts ≡ ts
    → without_last is_layout (before_last is_layout x ts) ≡ before_last is_layout x ts
before_twice x [] h = grind arith
before_twice x (u ∷ us) h = ap (before_last is_layout x) h

last_twice : (ts : List Token) → without_last is_layout (without_last is_layout ts) ≡ without_last is_layout ts
last_twice [] = refl
last_twice (x ∷ ts) = before_twice x (without_last is_layout ts) (last_twice ts)

solid_emitted : (d l : Directive) (ts : List Token) (t : Token)
    → d ≡ after_tokens ts → l ≡ after_tokens (without_last is_layout ts)
    → (if is_layout t then l else after_token d t) ≡ after_tokens (without_last is_layout (ts ++ t ∷ []))
solid_emitted d l ts t h k = grind (arith, last_layout, directive-pushed, last_solid)

pub tied_emitted : (d l : Directive) (c : Context) (o : Option Part) (t : Token) → IsTied d l c o
    → in_open_part c ≡ true
    → IsTied (after_token d t) (if is_layout t then l else after_token d t) c (option_map (part_with_token t) o)
tied_emitted d l c None t tied h = let wrong : false ≡ true = tied.part_is_open ∙ h in cc
tied_emitted d l c (Some p) t tied h = grind (arith, directive-pushed, solid_emitted)

dropped_tokens : (p : Part) → is_macro p.kind ≡ false → (without_layout p).tokens ≡ without_last is_layout p.tokens
dropped_tokens p h = grind arith

pub tied_dropped : (d l : Directive) (c : Context) (o : Option Part)
    → IsTied d l c o → IsTied l l c (option_map without_layout o)
tied_dropped d l c None tied = grind arith
tied_dropped d l c (Some p) tied = grind (arith, dropped_tokens, last_twice)
