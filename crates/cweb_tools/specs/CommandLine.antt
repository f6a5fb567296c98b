-- The command lines of `ctangle` and `wmerge`.
use Rattle.std.specs.Prelude.{ℕ, Bool, false, not, ◌&&◌, ◌||◌, ◌==◌, length, List, [], ◌∷◌, ◌++◌, codes, Option, None}
use Rattle.std.specs.Prelude.{Some, option_map, if◌then◌else◌, true, option_and_then, filter}
use Rattle.std.specs.List.{list_any, after_last, before_last}
use Rattle.std.specs.Option.{option_map_or}
use Rattle.std.specs.Str.{bytes_eq}
use Rattle.cweb_out.specs.Outputs.{is_control, is_slash}
use Rattle.cweb_rules.specs.Bytes.{is_letter}
use Rattle.cweb_tools.specs.declared.options.Shown.{Shown}

-- A lone `-`.
abbrev pub is_dash : List ℕ → Bool
is_dash word = bytes_eq word (codes "-")

-- A word of at least two bytes that begins with `-` or `+`.
abbrev pub is_option : List ℕ → Bool
is_option (a ∷ b ∷ rest) = a == 45 || a == 43
is_option _ = false

-- Whether a word can name a file.
abbrev pub can_name_file : List ℕ → Bool
can_name_file word =
    not (length word == 0) && not (list_any is_control word) && not (is_dash word) && not (is_option word)

-- The byte is `.`.
abbrev pub is_dot : ℕ → Bool
is_dot b = b == 46

-- Whether a word's last path part has a dot.
abbrev pub has_extension : List ℕ → Bool
has_extension word = list_any is_dot (after_last is_slash word)

-- The name of the web, the name that is tried if there is no such file, and the change file's.
pub record WebNames : Type 0 where
  pub web : List ℕ
  pub second : Option (List ℕ)
  pub change : Option (List ℕ)

-- The file name of a word: the word itself, or with this extension if it has none.
abbrev pub extended : List ℕ → List ℕ → List ℕ
extended word extension = if has_extension word then word else word ++ extension

-- A web without extension is tried with `.web` second.
abbrev pub second_try : List ℕ → Option (List ℕ)
second_try word = if has_extension word then None else Some (word ++ codes ".web")

-- The word for the change file. A lone `-` means none.
abbrev pub change_word : Option (List ℕ) → Option (List ℕ)
change_word None = None
change_word (Some word) = if is_dash word then None else Some word

-- The names from the words for the web and the change file. `None` if one of them can't name a file.
abbrev pub merge_by : List ℕ → Option (List ℕ) → Option WebNames
merge_by web change =
    if can_name_file web && option_map_or can_name_file (change_word change) true then Some (record {
      web = extended web (codes ".w");
      second = second_try web;
      change = option_map (λ word. extended word (codes ".ch")) (change_word change);
    })
    else None

-- The names from a list of words: one or two that can be read.
abbrev pub web_names_by : List (List ℕ) → Option WebNames
web_names_by (web ∷ []) = merge_by web None
web_names_by (web ∷ change ∷ []) = merge_by web (Some change)
web_names_by _ = None

-- Without options the log has everything but statistics.
abbrev pub shown_by_default : Shown
shown_by_default = record { banner = true; progress = true; closing = true; statistics = false }

-- A letter turned on or off. Any other letter has no effect.
abbrev pub letter_shown : Bool → ℕ → Shown → Shown
letter_shown on b shown =
    if b == 98 then record shown { banner = on }
    else (if b == 112 then record shown { progress = on }
    else (if b == 104 then record shown { closing = on }
    else (if b == 115 then record shown { statistics = on } else shown)))

-- Letters in order, or `None` if a byte is no letter.
abbrev pub letters_shown : Bool → List ℕ → Shown → Option Shown
letters_shown on [] shown = Some shown
letters_shown on (b ∷ bs) shown = if is_letter b then letters_shown on bs (letter_shown on b shown) else None

-- An option word: `+` turns its letters on, `-` off.
abbrev pub word_shown : List ℕ → Shown → Option Shown
word_shown [] shown = Some shown
word_shown (sign ∷ letters) shown = letters_shown (sign == 43) letters shown

-- The option words among words, in order. Later letters win.
abbrev pub words_shown : List (List ℕ) → Shown → Option Shown
words_shown [] shown = Some shown
words_shown (word ∷ words) shown =
    if is_option word then option_and_then (words_shown words) (word_shown word shown) else words_shown words shown

-- The words that are no option words.
abbrev pub other_words : List (List ℕ) → List (List ℕ)
other_words words = filter (λ word. not (is_option word)) words

-- The last part of a path, without its last dot and what follows it.
abbrev pub stem : List ℕ → List ℕ
stem word = let part = after_last is_slash word in if list_any is_dot part then before_last is_dot part else part

-- The file names of a run: those of the merge, and the main output's.
pub record TangleNames : Type 0 where
  pub merge : WebNames
  pub main : List ℕ

-- The main output's name: its own word, or one made from the web's. `None` if its word can't name a file.
abbrev pub main_by : List ℕ → Option (List ℕ) → Option (List ℕ)
main_by web None = Some (stem web ++ codes ".c")
main_by web (Some out) = if can_name_file out then Some (extended out (codes ".c")) else None

-- The names from the words for the web, the change file and the main output.
abbrev pub named_by : List ℕ → Option (List ℕ) → Option (List ℕ) → Option TangleNames
named_by web change out =
    option_and_then (λ (main : List ℕ). option_map (λ (merge : WebNames). record { merge = merge; main = main })
    (merge_by web change)) (main_by web out)

-- One to three words name the web, the change file and the main output.
abbrev pub names_by : List (List ℕ) → Option TangleNames
names_by (web ∷ []) = named_by web None None
names_by (web ∷ change ∷ []) = named_by web (Some change) None
names_by (web ∷ change ∷ out ∷ []) = named_by web (Some change) (Some out)
names_by _ = None

-- The parsed command line.
pub record OptionsModel : Type 0 where
  pub shown : Shown
  pub names : TangleNames

abbrev pub with_shown : Shown → TangleNames → OptionsModel
with_shown shown names = record { shown = shown; names = names }

-- The command line of these words, or `None` if they have another form.
abbrev pub options_by : List (List ℕ) → Option OptionsModel
options_by words =
    option_and_then (λ (shown : Shown). option_map (with_shown shown) (names_by (other_words words)))
    (words_shown words shown_by_default)
