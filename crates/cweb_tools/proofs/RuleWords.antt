-- The words of a rule, one after the other.
use Rattle.std.proofs.Common.{◌≡◌, ◌<◌, ◌+◌, ℕ, List, [], ◌∷◌, ◌++◌, map, length, drop, drop-cons, get_or, refl, sym, ◌∙◌, ap, arith, suc, add-one, append_assoc}
use Rattle.std.proofs.lemmas.List.{drop-map, length-drop, length-map}
use Rattle.std.specs.Prelude.{fold, codes}
use Rattle.std.specs.Borrow.{Bor}
use Rattle.std.specs.List.{flat_map}
use Rattle.cweb_tools.specs.Depfile.{Wrapped, add_word, colon, empty_rule, escaped, led, position_before, prerequisite_words, target_words}
use Rattle.cweb_tools.specs.declared.depfile.escape.Position.{Position}
use Rattle.cweb_tools.specs.declared.depfile.escape.Position.TheVariants.{Target, Inner, Last}
use Rattle.cweb_tools.specs.inner.RuleModel.{keys_of, lead_words}

-- The next of the remaining names.
pub next_name : (names : List (Bor (List ℕ))) (at : ℕ) (other : Bor (List ℕ)) → at < length names
    → drop at (keys_of names) ≡ (get_or names at other).now ∷ drop (at + 1) (keys_of names)
next_name names at other within = grind (arith, drop-map, drop-cons, add-one)

no_other : (names : List (List ℕ)) → length names ≡ 0 → position_before names ≡ Last
no_other [] none = refl
no_other (name ∷ names) none = absurd (omega (arith, none))

another : (names : List (List ℕ)) → 0 < length names → position_before names ≡ Inner
another [] some = absurd (omega (arith, some))
another (name ∷ names) some = refl

-- The position of a prerequisite before the remaining names.
pub is_last : (names : List (Bor (List ℕ))) (at : ℕ) → at + 1 ≡ length names
    → Last ≡ position_before (drop (at + 1) (keys_of names))
is_last names at last = grind (arith, no_other, length-drop, length-map)

pub is_inner : (names : List (Bor (List ℕ))) (at : ℕ) → at + 1 < length names
    → Inner ≡ position_before (drop (at + 1) (keys_of names))
is_inner names at inner = grind (arith, another, length-drop, length-map)

-- One more prerequisite was added.
pub word_added : (now new : Wrapped) (names : List (Bor (List ℕ))) (at : ℕ) (other : Bor (List ℕ)) (position : Position)
    (all : Wrapped) → at < length names → position ≡ position_before (drop (at + 1) (keys_of names))
    → new ≡ add_word now (escaped position (get_or names at other).now)
    → fold add_word now (prerequisite_words (drop at (keys_of names))) ≡ all
    → fold add_word new (prerequisite_words (drop (at + 1) (keys_of names))) ≡ all
word_added now new names at other position all within at_is is before = grind (arith, next_name)

-- One more empty rule was appended.
pub rule_added : (lead text new whole : List ℕ) (names : List (Bor (List ℕ))) (at : ℕ) (other : Bor (List ℕ))
    → at < length names → new ≡ text ++ empty_rule lead (get_or names at other).now
    → text ++ flat_map (empty_rule lead) (drop at (keys_of names)) ≡ whole
    → new ++ flat_map (empty_rule lead) (drop (at + 1) (keys_of names)) ≡ whole
rule_added lead text new whole names at other within is before = grind (arith, append_assoc, next_name)

-- What comes before the inputs is a prerequisite like others.
pub lead_is : (names : List (List ℕ)) → prerequisite_words (led names) ≡ lead_words names ++ prerequisite_words names
lead_is [] = refl
lead_is (name ∷ names) = grind arith

-- A colon after the last target.
no_more : (names : List (List ℕ)) → length names ≡ 0 → codes ":" ≡ colon names
no_more [] none = refl
no_more (name ∷ names) none = absurd (omega (arith, none))

some_more : (names : List (List ℕ)) → 0 < length names → [] ≡ colon names
some_more [] some = absurd (omega (arith, some))
some_more (name ∷ names) some = refl

module _ {X : Type 0} (name_of : X → List ℕ) (outputs : List X) (at : ℕ) where
  pub is_last_target : at + 1 ≡ length outputs → codes ":" ≡ colon (drop (at + 1) (map name_of outputs))
  is_last_target last = grind (arith, no_more, length-drop, length-map)

  pub is_inner_target : at + 1 < length outputs → [] ≡ colon (drop (at + 1) (map name_of outputs))
  is_inner_target inner = grind (arith, some_more, length-drop, length-map)

  -- One more target was added.
  pub target_added : (now new : Wrapped) (other : X) (mark : List ℕ) (all : Wrapped) → at < length outputs
      → mark ≡ colon (drop (at + 1) (map name_of outputs))
      → new ≡ add_word now (escaped Target (name_of (get_or outputs at other)) ++ mark)
      → fold add_word now (target_words (drop at (map name_of outputs))) ≡ all
      → fold add_word new (target_words (drop (at + 1) (map name_of outputs))) ≡ all
  target_added now new other mark all within mark_is is before =
      ap (λ (w : Wrapped). fold add_word w (target_words (drop (at + 1) (map name_of outputs))))
      (is ∙ ap (λ (m : List ℕ). add_word now (escaped Target (name_of (get_or outputs at other)) ++ m)) mark_is)
      ∙ ap (λ (ns : List (List ℕ)). fold add_word now (target_words ns)) (sym next)
      ∙ before
    where
      next : drop at (map name_of outputs) ≡ name_of (get_or outputs at other) ∷ drop (at + 1) (map name_of outputs)
      next = drop-map name_of at outputs ∙ ap (map name_of) (drop-cons outputs at other within)
          ∙ ap (λ (rest : List (List ℕ)). name_of (get_or outputs at other) ∷ rest)
          (sym (drop-map name_of (suc at) outputs)
          ∙ ap (λ (n : ℕ). drop n (map name_of outputs)) (sym (add-one at)))
