-- The tokens of parts.
use Rattle.std.specs.Prelude.{◌≡◌, ◌≤◌, ℕ, ◌++◌, Bool, true, false, not, ◌&&◌, ◌||◌, List, [], ◌∷◌, All}
use Rattle.cweb_lines.specs.Lines.{Line}
use Rattle.cweb_store.specs.Parts.{Token, Part, Word, Name, Defs, Head, Tail, Mark, Join, is_c_part, is_macro}
use Rattle.cweb_scan.specs.Lexemes.{scanned}

-- A use of a name, or a Defs.
abbrev pub needs_mark : Token → Bool
needs_mark (Name name) = true
needs_mark Defs = true
needs_mark t = false

-- The token is a Mark or a Join.
abbrev pub is_mark_or_join : Token → Bool
is_mark_or_join (Mark place) = true
is_mark_or_join Join = true
is_mark_or_join t = false

-- The first token passes a test.
abbrev pub first_token_is : (Token → Bool) → List Token → Bool
first_token_is test [] = false
first_token_is test (t ∷ ts) = test t

-- A Mark, or a Join, follows each use and each Defs.
abbrev pub marks_follow : List Token → Bool
marks_follow [] = true
marks_follow (t ∷ ts) = (not (needs_mark t) || first_token_is is_mark_or_join ts) && marks_follow ts

-- In C text a Mark follows each use and each Defs. The exception: a Join drops the Mark and follows itself.
abbrev pub MarksFollowUses : List Line → Type 0
MarksFollowUses lines =
    All (λ (p : Part). is_c_part p.kind ≡ true → marks_follow p.tokens ≡ true) (scanned lines).store.parts

-- A Head, further tokens and a Tail, both of one section.
pub record IsFramed (sections : ℕ) (ts : List Token) : Type 0 where
  pub section : ℕ
  pub positive : 1 ≤ section
  pub within : section ≤ sections
  pub between : List Token
  pub whole : ts ≡ Head section ∷ between ++ Tail section ∷ []

-- The token is a Word.
abbrev pub is_word : Token → Bool
is_word (Word bytes) = true
is_word t = false

-- C text is framed by the comments of its section. A macro begins with a Word.
pub record IsWhole (sections : ℕ) (p : Part) : Type 0 where
  pub c_text : is_c_part p.kind ≡ true → IsFramed sections p.tokens
  pub macro : is_macro p.kind ≡ true → first_token_is is_word p.tokens ≡ true

-- Each part of the store is whole.
abbrev pub PartsAreWhole : List Line → Type 0
PartsAreWhole lines = All (IsWhole (scanned lines).sections) (scanned lines).store.parts
