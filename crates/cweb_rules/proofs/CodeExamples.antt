-- Worked examples: the effect of each control code in each context, and the characters of `@'`.
use Rattle.cweb_rules.proofs.Common.{◌≡◌, ℕ, List, [], ◌∷◌, ◌++◌, Option, Some, None, map, codes, Effect, Nothing, Define, Format, Program, Named, InsertDefs, Joins, EmitAt, Faulty, DoubleAtInLimbo, IgnoredInCText}
use Rattle.cweb_rules.specs.Codes.{in_limbo, in_tex, in_macro, in_c}
use Rattle.cweb_rules.specs.Constants.{constant}
use Rattle.cweb_rules.specs.declared.effect.Effect.TheVariants as effect
use Rattle.cweb_rules.specs.declared.fault.ScanKind.TheVariants.{LetterOutsideLimbo, DefsInMacro}

-- Each of these letters has this effect.
abbrev Have : (ℕ → Effect) → List ℕ → Effect → Type 0
Have effect_of [] effect = Unit {0}
Have effect_of (letter ∷ letters) effect = (effect_of letter ≡ effect) × Have effect_of letters effect

record Codes : Type 0 where
  limbo_nothing : Have in_limbo (codes "@fFsS") Nothing
  limbo_control_text : Have in_limbo (codes "qQ") effect.ControlText
  limbo_letter : Have in_limbo (codes "lL") effect.Letter
  limbo_faulty : Have in_limbo (codes "dDcCpPhHtT<(&='^.:xX1!*>)|") (Faulty DoubleAtInLimbo)
  tex_define : Have in_tex (codes "dD") Define
  tex_program : Have in_tex (codes "cCpP") Program
  tex_named : Have in_tex (codes "<(") Named
  tex_nothing : Have in_tex (codes "fFsShH&='^.:tTqQlL@xX1!*>)|") Nothing
  macro_define : Have in_macro (codes "dD") Define
  macro_format : Have in_macro (codes "fFsS") Format
  macro_program : Have in_macro (codes "cCpP") Program
  macro_named : Have in_macro (codes "<(") Named
  macro_defs : Have in_macro (codes "hH") (Faulty DefsInMacro)
  macro_joins : Have in_macro (codes "&") Joins
  macro_verbatim : Have in_macro (codes "=") effect.Verbatim
  macro_constant : Have in_macro (codes "'") effect.Constant
  macro_control_text : Have in_macro (codes "^.:tTqQ") effect.ControlText
  macro_letter : Have in_macro (codes "lL") (Faulty LetterOutsideLimbo)
  macro_at : Have in_macro (codes "@") EmitAt
  macro_nothing : Have in_macro (codes "xX1!*>)|") Nothing
  c_faulty : Have in_c (codes "dDfFsScCpP") (Faulty IgnoredInCText)
  c_named : Have in_c (codes "<(") Named
  c_defs : Have in_c (codes "hH") InsertDefs
  c_joins : Have in_c (codes "&") Joins
  c_verbatim : Have in_c (codes "=") effect.Verbatim
  c_constant : Have in_c (codes "'") effect.Constant
  c_control_text : Have in_c (codes "^.:tTqQ") effect.ControlText
  c_letter : Have in_c (codes "lL") (Faulty LetterOutsideLimbo)
  c_at : Have in_c (codes "@") EmitAt
  c_nothing : Have in_c (codes "xX1!*>)|") Nothing

code_effects : Codes
code_effects = search

-- The value of the constant between `@'` and a quote.
abbrev value : List ℕ → Option ℕ
value spelling = (constant (spelling ++ 39 ∷ [])).value

-- The value of `\` and this letter.
abbrev escape : ℕ → Option ℕ
escape letter = value (92 ∷ letter ∷ [])

record Constants : Type 0 where
  escapes : map escape (codes "abfnrtv\\'\"?")
      ≡ Some 7 ∷ Some 8 ∷ Some 12 ∷ Some 10 ∷ Some 13 ∷ Some 9 ∷ Some 11 ∷ Some 92 ∷ Some 39 ∷ Some 34 ∷ Some 63 ∷ []
  no_escapes : map escape (codes "ceNxu89@ ") ≡ None ∷ None ∷ None ∷ None ∷ None ∷ None ∷ None ∷ None ∷ None ∷ []
  plain : map (λ b. value (b ∷ [])) (codes "aZ0\"~ ")
      ≡ Some 97 ∷ Some 90 ∷ Some 48 ∷ Some 34 ∷ Some 126 ∷ Some 32 ∷ []
  not_plain : map (λ b. value (b ∷ [])) (39 ∷ 64 ∷ 92 ∷ 10 ∷ 128 ∷ 255 ∷ [])
      ≡ None ∷ None ∷ None ∷ None ∷ None ∷ None ∷ []
  two_at_signs : value (codes "@@") ≡ Some 64
  octal : map value (codes "\\0" ∷ codes "\\7" ∷ codes "\\12" ∷ codes "\\101" ∷ codes "\\377" ∷ [])
      ≡ Some 0 ∷ Some 7 ∷ Some 10 ∷ Some 65 ∷ Some 255 ∷ []
  no_octal : map value (codes "\\400" ∷ codes "\\777" ∷ codes "\\1234" ∷ codes "\\18" ∷ [])
      ≡ None ∷ None ∷ None ∷ None ∷ []
  nothing : value [] ≡ None
  two_characters : value (codes "ab") ≡ None

constant_values : Constants
constant_values = search
