-- What is next doesn't depend on bytes after a seam that can't continue it.
use Rattle.cweb_rules.proofs.Common.{arith, ◌≡◌, ◌≤◌, ℕ, ◌+◌, Bool, true, false, cond, ◌==◌, not, List, [], ◌∷◌, ◌++◌, length, drop, refl, ap, ◌∙◌, list_all, prefix_len, eqb-true, drop-append-le, begins, first_is, is_line_end, is_digit, at_line_end, starts_section, AtLineEnd, longest, number_len, continues_number, starts_number, and_parts, and-false, or-false, and-true}

abbrev pub in_line : ℕ → Bool
in_line b = not (is_line_end b)

pub stops : (p : ℕ → Bool) (more : List ℕ) → p 10 ≡ false → AtLineEnd more → first_is p more ≡ false
stops p [] h e = refl
stops p (b ∷ more) h e = ap p e ∙ h

pub differs : (p : ℕ → Bool) (x b : ℕ) → p x ≡ true → p b ≡ false → (x == b) ≡ false
differs p x b h g = grind (arith, p b, eqb-true x b)

pub begins_stop : (p : ℕ → Bool) (s t more : List ℕ) → list_all p s ≡ true
    → first_is p more ≡ false → begins s (t ++ more) ≡ begins s t
begins_stop p [] t more a h = refl
begins_stop p (x ∷ s) [] [] a h = refl
begins_stop p (x ∷ s) [] (b ∷ more) a h = grind (arith, differs, and_parts)
begins_stop p (x ∷ s) (b ∷ t) more a h = grind (arith, begins_stop p s t more (and_parts (p x) (list_all p s) a).1 h)

pub begins_drop : (p : ℕ → Bool) (s : List ℕ) (n : ℕ) (t more : List ℕ) → list_all p s ≡ true
    → first_is p more ≡ false → n ≤ length t → begins s (drop n (t ++ more)) ≡ begins s (drop n t)
begins_drop p s n t more a h fits = ap (begins s) (drop-append-le n t more fits) ∙ begins_stop p s (drop n t) more a h

pub run_stop : (p : ℕ → Bool) (t more : List ℕ) → first_is p more ≡ false → prefix_len p (t ++ more) ≡ prefix_len p t
run_stop p [] [] h = refl
run_stop p [] (b ∷ more) h = ap (λ v. cond v (1 + prefix_len p more) 0) h
run_stop p (b ∷ t) more h = ap (λ n. cond (p b) (1 + n) 0) (run_stop p t more h)

pub number_stop : (last : ℕ) (t more : List ℕ) → ((last : ℕ) → first_is (continues_number last) more ≡ false)
    → number_len last (t ++ more) ≡ number_len last t
number_stop last [] [] h = refl
number_stop last [] (b ∷ more) h = cc (h last)
number_stop last (b ∷ t) more h = cc (number_stop b t more h)

pub starts_number_stop : (b : ℕ) (t more : List ℕ) → first_is is_digit more ≡ false
    → starts_number (b ∷ t ++ more) ≡ starts_number (b ∷ t)
starts_number_stop b [] [] h = refl
starts_number_stop b [] (c ∷ more) h = cc (and-false (b == 46), or-false (is_digit b))
starts_number_stop b (c ∷ t) more h = refl

pub longest_stop : (p : ℕ → Bool) (ps : List (List ℕ)) (t more : List ℕ)
    → list_all (list_all p) ps ≡ true → first_is p more ≡ false → longest ps (t ++ more) ≡ longest ps t
longest_stop p [] t more a h = refl
longest_stop p (s ∷ ps) t more a h = grind (arith, begins_stop p s t more, longest_stop p ps t more)

-- The end of the source counts as a line end.
pub at_line_end_line : (t more : List ℕ) → AtLineEnd more → at_line_end (t ++ more) ≡ at_line_end t
at_line_end_line [] [] e = refl
at_line_end_line [] (b ∷ more) e = ap is_line_end e
at_line_end_line (b ∷ t) more e = refl

pub starts_section_line : (b : ℕ) (t more : List ℕ) → AtLineEnd more
    → starts_section (b ∷ t ++ more) ≡ starts_section (b ∷ t)
starts_section_line b [] [] e = refl
starts_section_line b [] (x ∷ more) e = cc (and-true (b == 64))
starts_section_line b (c ∷ t) more e = refl

pub begins_line : (s t more : List ℕ) → list_all in_line s ≡ true → AtLineEnd more → begins s (t ++ more) ≡ begins s t
begins_line s t more a e = begins_stop in_line s t more a (stops in_line more refl e)

pub drop_line : (s : List ℕ) (n : ℕ) (t more : List ℕ) → list_all in_line s ≡ true
    → AtLineEnd more → n ≤ length t → begins s (drop n (t ++ more)) ≡ begins s (drop n t)
drop_line s n t more a e fits = begins_drop in_line s n t more a (stops in_line more refl e) fits

pub run_line : (p : ℕ → Bool) (t more : List ℕ) → p 10 ≡ false
    → AtLineEnd more → prefix_len p (t ++ more) ≡ prefix_len p t
run_line p t more h e = run_stop p t more (stops p more h e)
