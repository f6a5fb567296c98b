-- The text that `wdep` prints: the rules of a compiler's depfile, as `make` reads them.
use Rattle.std.specs.Prelude.{ℕ, zero, suc, ◌+◌, ◌==◌, Bool, ◌||◌, nat_le, List, [], ◌∷◌, ◌++◌, codes, length, drop, fold}
use Rattle.std.specs.Prelude.{if◌then◌else◌, replicate, slice_index_or}
use Rattle.std.specs.List.{flat_map, list_any}
use Rattle.std.specs.Str.{bytes_eq}
use Rattle.cweb_tools.specs.declared.depfile.TheConstants.{WIDTH}
use Rattle.cweb_tools.specs.declared.depfile.escape.Position.{Position}
use Rattle.cweb_tools.specs.declared.depfile.escape.Position.TheVariants.{Target, Inner, Last}

-- Appends a name that isn't in the list.
abbrev pub add_once : List (List ℕ) → List ℕ → List (List ℕ)
add_once names name = if list_any (bytes_eq name) names then names else names ++ name ∷ []

-- Each name once, in the order of first occurrence.
abbrev pub each_once : List (List ℕ) → List (List ℕ)
each_once names = fold add_once [] names

-- Blank, tab, `#` or `:`. To `make` they are part of a name only after a backslash.
abbrev pub ends_name : ℕ → Bool
ends_name b = b == 32 || (b == 9 || (b == 35 || b == 58))

-- The byte needs a backslash in a name at this position. In a target, `%` makes a pattern.
abbrev pub needs_backslash : Position → ℕ → Bool
needs_backslash Target b = b == 37 || ends_name b
needs_backslash position b = ends_name b

-- A byte after `n` backslashes. Those before a byte that needs a backslash are doubled, and so is `$`.
abbrev pub escaped_byte : Position → ℕ → ℕ → List ℕ
escaped_byte position n b =
    if needs_backslash position b then replicate n 92 ++ 92 ∷ b ∷ [] else (if b == 36 then 36 ∷ 36 ∷ [] else b ∷ [])

-- The number of backslashes that the text ends in, after one more byte.
abbrev pub backslashes_after : ℕ → ℕ → ℕ
backslashes_after n b = if b == 92 then n + 1 else 0

-- The end of a name after `n` backslashes. They are doubled, but the last name of a line gets a blank instead.
abbrev pub name_end : Position → ℕ → List ℕ
name_end Last zero = []
name_end Last (suc n) = 32 ∷ []
name_end position n = replicate n 92

-- The rest of a name after `n` backslashes.
abbrev pub escaped_from : Position → ℕ → List ℕ → List ℕ
escaped_from position n [] = name_end position n
escaped_from position n (b ∷ bs) = escaped_byte position n b ++ escaped_from position (backslashes_after n b) bs

-- A name at this position of a rule.
abbrev pub escaped : Position → List ℕ → List ℕ
escaped position name = escaped_from position 0 name

-- A colon after the last target, which no other name follows.
abbrev pub colon : List (List ℕ) → List ℕ
colon [] = codes ":"
colon names = []

abbrev pub target_words : List (List ℕ) → List (List ℕ)
target_words [] = []
target_words (name ∷ names) = (escaped Target name ++ colon names) ∷ target_words names

-- The position of a prerequisite before these.
abbrev pub position_before : List (List ℕ) → Position
position_before [] = Last
position_before names = Inner

abbrev pub prerequisite_words : List (List ℕ) → List (List ℕ)
prerequisite_words [] = []
prerequisite_words (name ∷ names) = escaped (position_before names) name ∷ prerequisite_words names

-- A text and the length of its last line.
pub record Wrapped : Type 0 where
  pub text : List ℕ
  pub column : ℕ

-- Appends a word: to the line if there is room, otherwise to a new one after a backslash.
abbrev pub add_word : Wrapped → List ℕ → Wrapped
add_word now word =
    if now.column == 0 then record { text = now.text ++ word; column = length word } else
    (if nat_le (now.column + (1 + length word)) WIDTH
    then record { text = now.text ++ 32 ∷ word; column = now.column + (1 + length word) }
    else record { text = now.text ++ (codes " \\\n " ++ word); column = 1 + length word })

-- A line that begins with such a name is an assignment to `make`. So is a rule whose first prerequisite is such a name.
abbrev pub has_equals : List ℕ → Bool
has_equals name = list_any (λ b. b == 61) name

-- A file that is always there comes before a first prerequisite with `=`.
abbrev pub led : List (List ℕ) → List (List ℕ)
led [] = []
led (name ∷ names) = if has_equals name then codes "/dev/null" ∷ name ∷ names else name ∷ names

-- The first prerequisite of a rule. It has no `=`.
abbrev pub leader : List (List ℕ) → List ℕ
leader names = slice_index_or (led names) 0 []

-- A rule without a prerequisite, so that `make` goes on if this file is gone. The leader comes before a name with `=`.
abbrev pub empty_rule : List ℕ → List ℕ → List ℕ
empty_rule lead name =
    (if has_equals name then escaped Target lead ++ 32 ∷ [] else []) ++ (escaped Target name ++ codes ":\n")

-- The rule that makes the outputs from the inputs, and an empty rule for each input but the first, which is the web.
abbrev pub depfile : List (List ℕ) → List (List ℕ) → List ℕ
depfile outputs inputs =
    (fold add_word (record { text = []; column = 0 }) (target_words outputs ++ prerequisite_words (led inputs))).text
    ++ (codes "\n" ++ flat_map (empty_rule (leader inputs)) (drop 1 inputs))
