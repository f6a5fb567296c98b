-- One step without an open item: a code, and the bytes before one.
use Rattle.cweb_scan.proofs.Common.{◌≡◌, ◌≤◌, ℕ, Bool, true, false, ◌==◌, not, List, [], ◌∷◌, drop, get_or, refl, ap, sym, subst, codes, prefix_len, eqb-true, begins, starts_section, match_in, effect_match, section_match, IsLine, opens_in, opens_effect, Context, Limbo, TeX, Definition, Effect, Named, is_c, effect_in, is_head, is_name_effect, is_skipped, reads_c, ReaderModel, TakesPrefix, MakesProgress, Between, and_parts, arith}
use Rattle.cweb_scan.proofs.SkippedRest.{is_text, skipped_takes}
use Rattle.cweb_scan.proofs.FirstMatchTaken.{between}

-- `@` and a letter.
pub code_shape : (u : List ℕ) → starts_section u ≡ false
    → begins (codes "@") u ≡ true → 64 ∷ get_or u 1 0 ∷ drop 2 u ≡ u
code_shape [] section at = cc
code_shape (a ∷ []) section at = grind (arith, eqb-true, and_parts)
code_shape (a ∷ b ∷ t) section at = ap (λ n. n ∷ b ∷ t) (eqb-true 64 a (and_parts (64 == a) true at).0)

code_is : (c : Context) (includes : Bool) (b : ℕ) (w : List ℕ) → is_head c ≡ false → starts_section (64 ∷ b ∷ w) ≡ false
    → match_in c includes (64 ∷ b ∷ w) ≡ effect_match (effect_in c b) (not (is_c c)) (64 ∷ b ∷ w)
code_is (Definition begun) includes b w head h = cc
code_is _ includes b w head h = rw h

code_opens : (c : Context) (b : ℕ) (w : List ℕ) → is_head c ≡ false → starts_section (64 ∷ b ∷ w) ≡ false
    → opens_in c (64 ∷ b ∷ w) ≡ opens_effect (effect_in c b) (64 ∷ b ∷ w)
code_opens (Definition begun) b w head h = cc
code_opens _ b w head h = rw h

-- A code that begins no name is one lexeme, whether or not names take their opener.
plain_code : (e : Effect) (takes : Bool) (t : List ℕ) → is_name_effect e ≡ false
    → (effect_match e takes t ≡ effect_match e true t) × (opens_effect e t ≡ false)
plain_code Named takes t h = cc
plain_code _ takes t h = (refl, refl)

-- The lexeme of a code, which ends in its line.
pub plain_prefix : (c : Context) (includes : Bool) (u : List ℕ) → is_head c ≡ false
    → starts_section u ≡ false → begins (codes "@") u ≡ true → is_name_effect (effect_in c (get_or u 1 0)) ≡ false
    → (match_in c includes u ≡ effect_match (effect_in c (get_or u 1 0)) true u) × (opens_in c u ≡ false)
plain_prefix c includes u head section at plain = grind (arith, code_shape, plain_code, code_is, code_opens)

text_is : (c : Context) → reads_c c ≡ false → is_text c ≡ true
text_is Limbo h = refl
text_is _ h = cc

pub text_head : (c : Context) → reads_c c ≡ false → is_head c ≡ false
text_head (Definition begun) h = cc
text_head _ h = refl

-- The bytes before the next `@`.
pub skipped_at : (n : ℕ) (u : List ℕ) (h : ReaderModel) → n ≡ prefix_len is_skipped u → 1 ≤ n
    → h.item ≡ Between → reads_c h.state.context ≡ false → IsLine u → MakesProgress n u h h
skipped_at n u h is some none text line = subst (λ i. MakesProgress n u
    (record { state = h.state; item = i; begun = h.begun }) (record { state = h.state; item = i; begun = h.begun }))
    (sym none) (record {
      some = some;
      last = λ e. cc;
      taken = subst (λ k. TakesPrefix k u (between h.state h.begun) (between h.state h.begun)) (sym is)
          (skipped_takes h.state h.begun u (text_is h.state.context text) line);
    })

pub section_text : (c : Context) (includes : Bool) (u : List ℕ) → reads_c c ≡ false
    → starts_section u ≡ true → (match_in c includes u ≡ section_match u) × (opens_in c u ≡ false)
section_text Limbo includes u c h = (rw h, rw h)
section_text TeX includes u c h = (rw h, rw h)
section_text _ includes u c h = cc
