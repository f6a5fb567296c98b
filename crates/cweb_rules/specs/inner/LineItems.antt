-- Delimited items, their plain bytes and their extent, and those that are open at the end of their line.
use Rattle.std.specs.Prelude.{◌≡◌, ◌≢◌, ℕ, ◌+◌, Bool, true, false, ◌&&◌, ◌||◌, List, [], ◌∷◌, ◌++◌, length, drop, codes}
use Rattle.std.specs.Prelude.{if◌then◌else◌, ◌<◌, ◌≤◌, not, ◌==◌}
use Rattle.std.specs.List.{AllByRecursion}
use Rattle.cweb_rules.specs.Bytes.{is_blank, is_line_end, begins, at_line_end, starts_section}
use Rattle.cweb_rules.specs.Edges.{first_is}
use Rattle.cweb_rules.specs.Matches.{Effect, c_rule, Context, Limbo, TeX, Definition, Macro, CText, Named}
use Rattle.cweb_rules.specs.Codes.{in_limbo, in_tex, in_macro, in_c}
use Rattle.cweb_rules.specs.Items.{reach, look_in_comment, look_in_name, look_in_literal, look_in_raw, Reach, body}
use Rattle.cweb_rules.specs.Items.{look_in_control, look_in_include, End, Closed, Cut, Nested, Open}
use Rattle.cweb_rules.specs.declared.look.Look.{Look}
use Rattle.cweb_rules.specs.Literals.{literal_prefix, quote_of, raw_prefix, delimiter, raw_closer}
use Rattle.cweb_rules.specs.declared.items.Item.{Item}
use Rattle.cweb_rules.specs.declared.items.Item.TheVariants.{ControlText, Name, Comment, LineComment, Literal}
use Rattle.cweb_rules.specs.declared.items.Item.TheVariants.{IncludedName, RawLiteral}
use Rattle.cweb_rules.specs.declared.items.Reached.{Reached}
use Rattle.cweb_rules.specs.declared.look.Look.TheVariants.{Goes, Ends}
use Rattle.cweb_rules.specs.declared.rule.Rule.{Rule}
use Rattle.cweb_rules.specs.declared.rule.Rule.TheVariants as rule

-- The bytes have no newline.
abbrev pub IsLine : List ℕ → Type 0
IsLine t = AllByRecursion (λ b. b ≢ 10) t

-- No rule before the literals applies.
pub record IsPast (t : List ℕ) : Type 0 where
  pub blank : first_is is_blank t ≡ false
  pub line_end : first_is is_line_end t ≡ false
  pub comment : begins (codes "/*") t ≡ false
  pub line_comment : begins (codes "//") t ≡ false
  pub section : starts_section t ≡ false
  pub code : begins (codes "@") t ≡ false

abbrev pub AtLineEnd : List ℕ → Type 0
AtLineEnd [] = Unit {0}
AtLineEnd (b ∷ t) = b ≡ 10

abbrev pub is_unclosed : End → Bool
is_unclosed Open = true
is_unclosed Closed = false
is_unclosed Cut = false
is_unclosed Nested = false

-- The item is still open after the newline that ends its line.
abbrev pub goes_on : (List ℕ → Look) → List ℕ → Bool
goes_on look t = is_unclosed (reach look Open (t ++ 10 ∷ [])).how

-- The next item is still open after the newline that ends its line.
abbrev pub opens_comment : List ℕ → Bool
opens_comment t = goes_on (look_in_comment (begins (codes "*/")) 2) (drop 2 t)

abbrev pub opens_name : List ℕ → Bool
opens_name t = goes_on look_in_name (drop 2 t)

abbrev pub opens_literal : List ℕ → Bool
opens_literal t = let n = literal_prefix t in goes_on (look_in_literal (quote_of (drop n t))) (drop (n + 1) t)

abbrev pub opens_raw : List ℕ → Bool
opens_raw t =
    let m = raw_prefix t + 2 in
    goes_on (look_in_raw (raw_closer (drop m t))) (drop (m + length (delimiter (drop m t)) + 1) t)

abbrev pub opens_effect : Effect → List ℕ → Bool
opens_effect Named t = opens_name t
opens_effect e t = false

abbrev pub opens_code : (ℕ → Effect) → List ℕ → Bool
opens_code effect [] = false
opens_code effect (a ∷ []) = false
opens_code effect (a ∷ b ∷ t) = opens_effect (effect b) (a ∷ b ∷ t)

abbrev pub tex_opens : (ℕ → Effect) → List ℕ → Bool
tex_opens effect t =
    if starts_section t then false
    else (if begins (codes "@") t then opens_code effect t else false)

-- The lexeme of a rule of C text is still open after its line.
abbrev pub opens_by : (ℕ → Effect) → List ℕ → Rule → Bool
opens_by effect t rule.Comment = opens_comment t
opens_by effect t rule.Code = opens_code effect t
opens_by effect t rule.RawLiteral = opens_raw t
opens_by effect t rule.Literal = opens_literal t
opens_by effect t r = false

abbrev pub c_opens : (ℕ → Effect) → List ℕ → Bool
c_opens effect t = opens_by effect t (c_rule false t)

abbrev pub macro_opens : List ℕ → Bool
macro_opens t = if begins (codes "\\") t && at_line_end (drop 1 t) then false else c_opens in_macro t

abbrev pub opens_in : Context → List ℕ → Bool
opens_in Limbo t = tex_opens in_limbo t
opens_in TeX t = tex_opens in_tex t
opens_in (Definition begun) t = c_opens in_macro t || tex_opens in_tex t
opens_in Macro t = macro_opens t
opens_in CText t = c_opens in_c t

-- Delimited items of the type `Item`, and their extent.
abbrev pub look_of : Item → List ℕ → Look
look_of ControlText t = look_in_control t
look_of Name t = look_in_name t
look_of Comment t = look_in_comment (begins (codes "*/")) 2 t
look_of LineComment t = look_in_comment at_line_end 0 t
look_of (Literal quote) t = look_in_literal quote t
look_of IncludedName t = look_in_include t
look_of (RawLiteral closer) t = look_in_raw closer.now t

abbrev pub MovesOn : Look → Type 0
MovesOn (Goes n) = 0 < n
MovesOn (Ends n how) = Unit {0}

abbrev pub reached : Reach → Reached
reached r = record { size = length (body r); close = r.close; how = r.how }

-- The number of bytes is as defined, and the text has so many.
pub record IsSizeIn (size_of : List ℕ → ℕ) (text : List ℕ) (result : ℕ) : Type 0 where
  pub value : result ≡ size_of text
  pub within : result ≤ length text

-- The length of its opener, up to its `(`.
abbrev pub raw_opener_len : List ℕ → ℕ
raw_opener_len t = let m = raw_prefix t + 2 in m + length (delimiter (drop m t)) + 1

-- The closer of the raw literal that the source begins with.
abbrev pub raw_closer_of : List ℕ → List ℕ
raw_closer_of t = raw_closer (drop (raw_prefix t + 2) t)

-- Plain bytes are units of their own, whatever follows. Others may begin a closer, a longer unit or another end.
abbrev pub is_raw_special : List ℕ → ℕ → Bool
is_raw_special [] b = true
is_raw_special (first ∷ rest) b = b == 64 || b == first

abbrev pub is_special : Item → ℕ → Bool
is_special ControlText b = b == 64 || b == 10
is_special Name b = b == 64
is_special Comment b = b == 64 || b == 42
is_special LineComment b = b == 64 || b == 10
is_special (Literal quote) b = (b == 64 || b == 92 || b == quote) || b == 10
is_special IncludedName b = b == 64 || b == 10 || b == 62
is_special (RawLiteral closer) b = is_raw_special closer.now b

abbrev pub is_plain : Item → ℕ → Bool
is_plain item b = not (is_special item b)
