-- Include lines, and how the files of a run are found.
use Rattle.std.specs.Prelude.{ℕ, ◌||◌, ◌&&◌, Bool, true, false, ◌==◌, List, [], ◌∷◌, ◌++◌, Option, None, Some}
use Rattle.std.specs.Prelude.{drop, option_map, option_and_then, option_to_list, if◌then◌else◌}
use Rattle.std.specs.List.{before_first}
use Rattle.std.specs.Option.{option_or}
use Rattle.std.specs.Str.{is_utf8}

-- The contents of each name, and the folder that is searched for included files.
pub record World : Type 0 where
  pub texts : List ℕ → Option (List ℕ)
  pub inputs : Option (List ℕ)

-- The line begins with `@i` or `@I`.
abbrev pub is_include_line : List ℕ → Bool
is_include_line (a ∷ b ∷ rest) = a == 64 && (b == 105 || b == 73)
is_include_line _ = false

-- A blank or a tab.
abbrev pub is_space : ℕ → Bool
is_space b = b == 32 || b == 9

-- A name ends at a double quote or, outside quotes, at a space.
abbrev pub ends_name : Bool → ℕ → Bool
ends_name true b = b == 34
ends_name false b = is_space b || b == 34

-- The name after leading spaces: in double quotes, or one word.
abbrev pub name_after_spaces : List ℕ → List ℕ
name_after_spaces [] = []
name_after_spaces (b ∷ bs) =
    if is_space b then name_after_spaces bs
    else (if b == 34 then before_first (ends_name true) bs else before_first (ends_name false) (b ∷ bs))

-- The name in an include line, empty if it has none.
abbrev pub include_name : List ℕ → List ℕ
include_name line = name_after_spaces (drop 2 line)

-- A file that was found: its name and contents.
abbrev pub Found : Type 0
Found = List ℕ × List ℕ

-- The file of a name that has contents.
abbrev pub found_under : (List ℕ → Option (List ℕ)) → List ℕ → Option Found
found_under texts name = option_map (λ text. (name, text)) (texts name)

-- The file of a name in the folder: the folder, a slash and the name.
abbrev pub in_folder : World → List ℕ → Option Found
in_folder world name = option_and_then (λ folder. found_under world.texts (folder ++ 47 ∷ name)) world.inputs

-- The file of an include name: under that name, else in the folder. A name that isn't UTF-8 has none.
abbrev pub found_at : World → List ℕ → Option Found
found_at world name = if is_utf8 name then option_or (found_under world.texts name) (in_folder world name) else None

-- The web: under its name, else under the second name.
abbrev pub web_at : (List ℕ → Option (List ℕ)) → List ℕ → Option (List ℕ) → Option Found
web_at texts web second = option_or (found_under texts web) (option_and_then (found_under texts) second)

-- The change file. `Some None` means that none is named, and `None` that the named file isn't there.
abbrev pub change_at : (List ℕ → Option (List ℕ)) → Option (List ℕ) → Option (Option Found)
change_at texts None = Some None
change_at texts (Some name) = option_map Some (found_under texts name)

-- The name of a file that was found, as a list.
abbrev pub names_found : Option Found → List (List ℕ)
names_found found = option_to_list (option_map (λ f. f.0) found)

-- The contents of a file that was found.
abbrev pub contents_found : Option Found → Option (List ℕ)
contents_found found = option_map (λ f. f.1) found
