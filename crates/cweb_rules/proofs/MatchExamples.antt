-- Worked examples of lexemes.
use Rattle.cweb_rules.proofs.Common.{◌≡◌, true, false, Some, None, [], ◌∷◌, codes, Place, Limbo, TeX, Definition, Macro, CText, Faulty, Closed, Cut, Nested, DoubleAtInLimbo, IgnoredInCText, match_in, Skipped, Section, Code, Letter, Constant, Occurrence, Comment, Quoted, Defined, Numeral, Punctuator, rule_match, Goes, Ends, look_in_control}
use Rattle.cweb_rules.proofs.ItemReaches.{reach_of_control_text}
use Rattle.cweb_rules.specs.declared.constants.TheConstants.{MAX_REPLACEMENT}
use Rattle.cweb_rules.specs.declared.literals.TheConstants.{MAX_DELIMITER}

abbrev here : Place
here = record { file = record { 0 = 0 }; line = 1 }

record Computed : Type 0 where
  number_with_an_exponent : match_in CText false (codes "0xe+1 x") ≡ rule_match Numeral 5
  longest_punctuator : match_in CText false (codes "<<=>") ≡ rule_match Punctuator 3
  unclosed_comment : match_in CText false (codes "/*/ a") ≡ rule_match (Comment Cut) 5
  included_name_in_a_directive : match_in CText true (codes "<a.h> b")
      ≡ rule_match (Quoted (codes "<" ∷ codes "a" ∷ codes "." ∷ codes "h" ∷ codes ">" ∷ []) Closed) 5
  less_than_elsewhere : match_in CText false (codes "<a.h>") ≡ rule_match Punctuator 1
  raw_literal_with_a_delimiter : match_in CText false (codes "R\"d()\")d\"x")
      ≡ rule_match (Quoted (codes "R\"d(" ∷ codes ")" ∷ codes "\"" ∷ codes ")d\"" ∷ []) Closed) 9
  cut_literal : match_in Macro false (codes "L'a@@")
      ≡ rule_match (Quoted (codes "L'" ∷ codes "a" ∷ codes "@@" ∷ [] ∷ []) Cut) 5
  nested_name : match_in CText false (codes "@<a@<b@>") ≡ rule_match (Occurrence false (codes "a" ∷ []) Nested false) 3
  name_with_its_sign_in_text : match_in TeX false (codes "@(a@> +=b")
      ≡ rule_match (Occurrence true (codes "a" ∷ []) Closed true) 8
  name_before_a_sign_in_c_text : match_in CText false (codes "@(a@> +=b")
      ≡ rule_match (Occurrence true (codes "a" ∷ []) Closed true) 5
  no_sign_before_another_one : match_in TeX false (codes "@<a@>==b")
      ≡ rule_match (Occurrence false (codes "a" ∷ []) Closed false) 5
  backslash_at_a_macros_line_end : match_in Macro false (codes "\\\nx") ≡ rule_match Skipped 1
  identifier_of_a_macro : match_in (Definition here) false (codes "f(x)") ≡ rule_match (Defined true) 1
  code_in_upper_case : match_in CText false (codes "@D") ≡ rule_match (Code (Faulty IgnoredInCText)) 2
  name_in_limbo : match_in Limbo false (codes "@<a@>") ≡ rule_match (Code (Faulty DoubleAtInLimbo)) 2
  letter_in_limbo : match_in Limbo false (codes "@l FC\tue.") ≡ rule_match (Letter 252 (Some (codes "ue"))) 8
  octal_constant : match_in CText false (codes "@'\\101'") ≡ rule_match (Constant (Some 65)) 7
  constant_of_two_bytes : match_in CText false (codes "@'ab'c") ≡ rule_match (Constant None) 5
  starred_section : match_in CText false (codes "@*") ≡ rule_match (Section true) 2
  units_of_a_control_text : reach_of_control_text (codes "a@@b@>c")
      ≡ record { units = codes "a" ∷ codes "@@" ∷ codes "b" ∷ []; close = 2; how = Closed }
  its_rule_goes_on_at_a_unit : look_in_control (codes "@@b@>c") ≡ Goes 2
  its_rule_ends_it_after_the_last_unit : look_in_control (codes "@>c") ≡ Ends 2 Closed
  section_at_the_end : match_in TeX false (codes "@") ≡ rule_match (Section false) 1
  -- the limits
  longest_replacement : MAX_REPLACEMENT ≡ 31
  longest_delimiter : MAX_DELIMITER ≡ 16

computed : Computed
computed = search
