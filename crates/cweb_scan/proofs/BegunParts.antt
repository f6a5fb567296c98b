-- The first token of an open part stays: a Word in a macro, a Head in C text.
use Rattle.cweb_scan.proofs.Common.{◌≡◌, ◌≤◌, ℕ, zero, suc, Bool, true, false, ◌==◌, List, [], ◌∷◌, ◌++◌, Option, Some, None, refl, ap, ◌∙◌, subst, option_map, if◌then◌else◌, All, Token, Head, Word, Part, is_macro, is_layout, before_last, without_layout, without_blank, without_last, is_newline, protected_count, part_with_token, Context, Limbo, TeX, Definition, Macro, CText, ScanState, emit}
use Rattle.cweb_store.specs.Parts.{without_last_after}
use Rattle.cweb_scan.specs.laws.PartTokens.{is_word, first_token_is, IsWhole}
use Rattle.cweb_scan.proofs.SmallSteps.{Preserves}

abbrev pub is_head : ℕ → Token → Bool
is_head n (Head m) = m == n
is_head n t = false

-- The first token stays.

pub push-begins : (test : Token → Bool) (ts : List Token) (u : Token) → first_token_is test ts ≡ true
    → first_token_is test (ts ++ u ∷ []) ≡ true
push-begins test [] u h = cc
push-begins test (t ∷ ts) u h = h

pub before-begins : (test dropped : Token → Bool) (t : Token) (us : List Token) → test t ≡ true → dropped t ≡ false
    → first_token_is test (before_last dropped t us) ≡ true
before-begins test dropped t [] h e = ap (λ v. first_token_is test (if v then [] else t ∷ [])) e ∙ h
before-begins test dropped t (u ∷ us) h e = h

pub drop-begins : (test : Token → Bool) → ((t : Token) → test t ≡ true → is_layout t ≡ false)
    → (k : ℕ) (ts : List Token) → first_token_is test ts ≡ true
    → first_token_is test (without_last_after k is_layout ts) ≡ true
drop-begins test solid zero [] h = cc
drop-begins test solid zero (t ∷ ts) h = before-begins test is_layout t (without_last is_layout ts) h (solid t h)
drop-begins test solid (suc k) [] h = cc
drop-begins test solid (suc k) (t ∷ ts) h = h

pub word-solid : (t : Token) → is_word t ≡ true → is_layout t ≡ false
word-solid (Word b) h = refl
word-solid t h = cc

pub head-solid : (n : ℕ) (t : Token) → is_head n t ≡ true → is_layout t ≡ false
head-solid n (Head m) h = refl
head-solid n t h = cc

pub blank-begins : (ts : List Token) → first_token_is is_word ts ≡ true
    → first_token_is is_word (without_blank ts) ≡ true
blank-begins [] h = cc
blank-begins (Word b ∷ []) h = refl
blank-begins (Word b ∷ u ∷ us) h = refl
blank-begins (t ∷ ts) h = cc

pub close-begins : (ts : List Token) → first_token_is is_word ts ≡ true
    → first_token_is is_word (without_blank (without_last is_newline ts)) ≡ true
close-begins [] h = cc
close-begins (Word b ∷ ts) h = blank-begins (before_last is_newline (Word b) (without_last is_newline ts))
    (before-begins is_word is_newline (Word b) (without_last is_newline ts) refl refl)
close-begins (t ∷ ts) h = cc

-- What is open in a context: nothing, a macro that has begun with a Word, or C text that has begun with a Head.

abbrev pub IsShut : Option Part → Type 0
IsShut None = Unit {0}
IsShut (Some p) = ⊥

abbrev pub HasBegun : Bool → (Token → Bool) → Option Part → Type 0
HasBegun macro test None = ⊥
HasBegun macro test (Some p) = (is_macro p.kind ≡ macro) × (first_token_is test p.tokens ≡ true)

abbrev pub IsInside : Context → ℕ → Option Part → Type 0
IsInside Limbo n o = IsShut o
IsInside TeX n o = IsShut o × (1 ≤ n)
IsInside (Definition begun) n o = IsShut o × (1 ≤ n)
IsInside Macro n o = HasBegun true is_word o × (1 ≤ n)
IsInside CText n o = HasBegun false (is_head n) o × (1 ≤ n)

abbrev pub AreWhole : ScanState → Type 0
AreWhole s = All (IsWhole s.sections) s.contents.parts.closed × IsInside s.context s.sections s.contents.parts.current

pub shut-map : (f : Part → Part) (o : Option Part) → IsShut o → IsShut (option_map f o)
shut-map f None h = tt
shut-map f (Some p) h = absurd h

pub begun-push : (macro : Bool) (test : Token → Bool) (t : Token) (o : Option Part) → HasBegun macro test o
    → HasBegun macro test (option_map (part_with_token t) o)
begun-push macro test t None h = absurd h
begun-push macro test t (Some p) h = (h.0, push-begins test p.tokens t h.1)

pub begun-drop : (macro : Bool) (test : Token → Bool) → ((t : Token) → test t ≡ true → is_layout t ≡ false)
    → (o : Option Part) → HasBegun macro test o → HasBegun macro test (option_map without_layout o)
begun-drop macro test solid None h = absurd h
begun-drop macro test solid (Some p) h = (h.0, drop-begins test solid (protected_count p.kind) p.tokens h.1)

pub inside-push : (c : Context) (n : ℕ) (t : Token) (o : Option Part) → IsInside c n o
    → IsInside c n (option_map (part_with_token t) o)
inside-push Limbo n t o h = shut-map (part_with_token t) o h
inside-push TeX n t o h = (shut-map (part_with_token t) o h.0, h.1)
inside-push (Definition begun) n t o h = (shut-map (part_with_token t) o h.0, h.1)
inside-push Macro n t o h = (begun-push true is_word t o h.0, h.1)
inside-push CText n t o h = (begun-push false (is_head n) t o h.0, h.1)

pub inside-drop : (c : Context) (n : ℕ) (o : Option Part) → IsInside c n o → IsInside c n (option_map without_layout o)
inside-drop Limbo n o h = shut-map without_layout o h
inside-drop TeX n o h = (shut-map without_layout o h.0, h.1)
inside-drop (Definition begun) n o h = (shut-map without_layout o h.0, h.1)
inside-drop Macro n o h = (begun-drop true is_word word-solid o h.0, h.1)
inside-drop CText n o h = (begun-drop false (is_head n) (head-solid n) o h.0, h.1)

pub emit-whole : (t : Token) (s : ScanState) → AreWhole s → AreWhole (emit t s)
emit-whole t s h = (h.0, inside-push s.context s.sections t s.contents.parts.current h.1)

pub stays_whole : Preserves AreWhole
stays_whole = record {
  emits = λ t s small h. emit-whole t s h;
  reports = λ k p s h. h;
  moves = λ p s h. h;
  replaces = λ x s h. h;
  folds = λ v s h. h;
  drops = λ begun s e h. (h.0, subst (λ c. IsInside c s.sections s.contents.parts.current) e h.1);
}
