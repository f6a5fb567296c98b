-- Worked examples of the definitions.
use Rattle.cweb_store.proofs.Common.{◌≡◌, ℕ, List, [], ◌∷◌, ◌++◌, Some, None, map, true, false, codes, Ok, Err, How, Full, Prefix, NameFault, Ambiguous, NeverFull, PrefixOfAnother, NotPresent, NameRef, PartKind, Unnamed, Named, Macro, Occurrence, id, names, spellings, resolutions, resolved_among, files, Token, Word, Punct, Mark, Blank, Newline, joined_where, is_of, is_unnamed, is_macro, numbers_where, has_defs_code, is_defs, replacement, replacement_of, fault_of_name, faults, left_of_macro, is_name_use, token_numbers, uninterned_store_bytes, interned_store_bytes, Call, Occurs, Opens, Pushes, Drops, Closes, Transliterates, Stored, contents, finished, occurrence_of}
use Rattle.cweb_store.specs.Parts.{Number, Name, Join, Defs}

abbrev stored : List Call → Stored
stored calls = finished (contents calls)

abbrev faults_of : List Call → List NameFault
faults_of calls = faults (stored calls).occurrences (stored calls).parts

abbrev joined_of : List Call → ℕ → List Token
joined_of calls n = joined_where (is_of (resolutions (stored calls).occurrences) (id n)) (stored calls).parts

abbrev ref : ℕ → NameRef
ref i = record { 0 = i }

abbrev named : ℕ → PartKind
named i = Named (ref i)

abbrev glob : Occurrence
glob = occurrence_of (codes "Glob") Prefix false

abbrev variables : Occurrence
variables = occurrence_of (codes "Global variables") Full false

abbrev types : Occurrence
types = occurrence_of (codes "Global types") Full false

abbrev zz : Occurrence
zz = occurrence_of (codes "Zz") Prefix false

abbrev header : How → List ℕ → Occurrence
header how text = occurrence_of text how true

abbrev prefixed : List Call
prefixed = Occurs (occurrence_of (codes "ab") Full false) ∷ Opens (named 0) ∷ Pushes (Word (codes "x")) ∷ Closes
    ∷ Occurs (occurrence_of (codes "abc") Full false) ∷ Opens (named 1) ∷ Pushes (Word (codes "y")) ∷ Closes ∷ []

-- The part that uses B has an unresolved name.
abbrev of_no_name : List Call
of_no_name =
    Occurs zz ∷ Opens (named 0) ∷ Occurs (occurrence_of (codes "B") Full false) ∷ Pushes (Name (ref 1)) ∷ Closes ∷ []

-- Unresolved occurrences, then prefixes of other names, then names without a part.
abbrev in_order : List Call
in_order = Occurs (header Full (codes "Glob")) ∷ Occurs (header Full (codes "Global")) ∷ Occurs zz ∷ Occurs glob ∷ []

-- A part of A, a part of the program, and an open part of A.
abbrev joins : List Call
joins = Occurs (occurrence_of (codes "A") Full false) ∷ Opens (named 0) ∷ Pushes (Word (codes "a")) ∷ Pushes Blank
    ∷ Closes ∷ Opens Unnamed ∷ Occurs (occurrence_of (codes "A") Full false) ∷ Pushes (Name (ref 1)) ∷ Closes ∷ Occurs
    (occurrence_of (codes "A") Full false) ∷ Opens (named 2) ∷ Pushes (Word (codes "b")) ∷ []

-- The tokens of a part after its trailing layout is dropped and it is closed.
abbrev dropped_of : PartKind → List Token → List Token
dropped_of kind tokens = joined_where (λ k. true) (stored (Opens kind ∷ map Pushes tokens ++ Drops ∷ [])).parts

abbrev closed_of : PartKind → List Token → List Token
closed_of kind tokens = joined_where (λ k. true) (stored (Opens kind ∷ map Pushes tokens ++ Closes ∷ [])).parts

abbrev mark : Token
mark = Mark (record { file = record { 0 = 0 }; line = 1 })

abbrev x : Token
x = Word (codes "x")

-- A macro is no C text: its Defs and uses don't count.
abbrev in_a_macro : List Call
in_a_macro = Occurs (occurrence_of (codes "A") Full false) ∷ Opens Macro ∷ Pushes Defs ∷ Pushes (Name (ref 0)) ∷ []

abbrev replaced : List Call
replaced = Transliterates (replacement_of 196 (codes "Ae")) ∷ Transliterates
    (replacement_of 228 (codes "ae")) ∷ Transliterates (replacement_of 196 (codes "A")) ∷ []

-- Equal Words are stored once. A Number may have the bytes of a Word.
abbrev three_times : List Call
three_times = Opens Unnamed ∷ Pushes x ∷ Pushes x ∷ Pushes x ∷ []

-- Punctuators are stored once too. One may have the bytes of a Word.
abbrev arrow : Token
arrow = Punct (codes "->")

-- Entries of the token index.
abbrev recorded : List Token
recorded = Blank ∷ Name (ref 0) ∷ Defs ∷ Name (ref 1) ∷ []

record Computed : Type 0 where
  -- An abbreviation before the only name that matches.
  before_the_only_name : resolutions (glob ∷ variables ∷ []) ≡ Ok (id 0) ∷ Ok (id 0) ∷ []
  before_two_names : resolutions (glob ∷ variables ∷ types ∷ []) ≡ Err Ambiguous ∷ Ok (id 0) ∷ Ok (id 1) ∷ []
  -- A later name doesn't count if an earlier one matches.
  between_two_names : resolutions (variables ∷ glob ∷ types ∷ []) ≡ Ok (id 0) ∷ Ok (id 0) ∷ Ok (id 1) ∷ []
  after_two_names : resolutions (variables ∷ types ∷ glob ∷ []) ≡ Ok (id 0) ∷ Ok (id 1) ∷ Err Ambiguous ∷ []
  by_the_names_before_it : resolved_among (names (variables ∷ [])) (names (variables ∷ glob ∷ types ∷ [])) glob
      ≡ Ok (id 0)
  by_all_names : resolved_among [] (names (glob ∷ variables ∷ types ∷ [])) glob ≡ Err Ambiguous
  never_in_full : resolutions (zz ∷ []) ≡ Err NeverFull ∷ []
  given_twice : spellings (names (variables ∷ types ∷ variables ∷ []))
      ≡ codes "Global variables" ∷ codes "Global types" ∷ []
  -- A file's name may be given in full elsewhere, and abbreviated as a file's.
  by_abbreviation : files (occurrence_of (codes "a.h") Full
      false ∷ header Full (codes "b.h") ∷ header Prefix (codes "a") ∷ header Full (codes "b.h") ∷ []) ≡ id 1 ∷ id 0 ∷ []
  a_file_that_two_occurrences_name : files (header Full (codes "b.h") ∷ glob ∷ header Full (codes "b.h") ∷ [])
      ≡ id 0 ∷ []
  a_prefix_of_another : faults_of prefixed ≡ fault_of_name PrefixOfAnother 0 ∷ []
  a_file_without_part : faults_of (Occurs (header Full (codes "a.h")) ∷ []) ≡ fault_of_name NotPresent 0 ∷ []
  used_by_a_part_of_no_name : faults_of of_no_name ≡ fault_of_name NeverFull 0 ∷ fault_of_name NotPresent 1 ∷ []
  order_of_faults : faults_of in_order
      ≡ fault_of_name NeverFull 2 ∷ fault_of_name Ambiguous 3 ∷ fault_of_name PrefixOfAnother 0
      ∷ fault_of_name NotPresent 0 ∷ fault_of_name NotPresent 1 ∷ []
  joined_in_order : joined_of joins 0 ≡ Word (codes "a") ∷ Blank ∷ Word (codes "b") ∷ []
  the_program : joined_where is_unnamed (stored joins).parts ≡ Name (ref 1) ∷ []
  numbers_of_parts : numbers_where (is_of (resolutions (stored joins).occurrences) (id 0)) (stored joins).parts
      ≡ (record { first = 0; after = 2 }) ∷ (record { first = 3; after = 4 }) ∷ []
  layout_of_a_part : dropped_of Unnamed (Blank ∷ x ∷ Blank ∷ mark ∷ Newline ∷ []) ≡ Blank ∷ x ∷ []
  layout_alone : dropped_of Unnamed (Blank ∷ Newline ∷ []) ≡ []
  -- Layout before another token stays.
  layout_before_a_join : dropped_of Unnamed (Newline ∷ Join ∷ []) ≡ Newline ∷ Join ∷ []
  layout_of_a_macro_of_one : dropped_of Macro (Blank ∷ []) ≡ Blank ∷ []
  layout_of_a_macro_of_two : dropped_of Macro (x ∷ Blank ∷ []) ≡ x ∷ Blank ∷ []
  two_layout_tokens_of_a_macro : left_of_macro (Newline ∷ Blank ∷ Blank ∷ Newline ∷ []) ≡ Newline ∷ Blank ∷ []
  layout_of_a_macro_of_three : dropped_of Macro (x ∷ Blank ∷ Newline ∷ []) ≡ x ∷ Blank ∷ []
  end_of_a_macro : closed_of Macro (x ∷ Blank ∷ x ∷ Blank ∷ Blank ∷ Newline ∷ Newline ∷ []) ≡ x ∷ Blank ∷ x ∷ Blank ∷ []
  -- One Blank is dropped, and no Newline before it.
  blank_of_a_macro : closed_of Macro (x ∷ Newline ∷ Blank ∷ []) ≡ x ∷ Newline ∷ []
  end_of_a_part : closed_of Unnamed (x ∷ Blank ∷ Newline ∷ []) ≡ x ∷ Blank ∷ Newline ∷ []
  defs_of_a_macro : has_defs_code (stored in_a_macro).parts ≡ false
  use_in_a_macro : faults_of in_a_macro ≡ []
  defs_of_a_part : has_defs_code (stored (Opens (named 7) ∷ Pushes Defs ∷ [])).parts ≡ true
  macros_in_order : joined_where is_macro (stored (Opens Macro ∷ Pushes
      x ∷ Closes ∷ Opens Unnamed ∷ Pushes Join ∷ Closes ∷ Opens Macro ∷ Pushes Blank ∷ [])).parts ≡ x ∷ Blank ∷ []
  a_later_replacement_wins : replacement (stored replaced).replacements 196 ≡ Some (codes "A")
  a_replacement_of_its_own : replacement (stored replaced).replacements 228 ≡ Some (codes "ae")
  no_replacement : replacement (stored replaced).replacements 214 ≡ None
  words_kept_once : interned_store_bytes (stored three_times) ≡ 1
  signs_kept_once : interned_store_bytes
      (stored (Opens Unnamed ∷ Pushes arrow ∷ Pushes x ∷ Pushes (Punct (codes "x")) ∷ Pushes arrow ∷ [])) ≡ 3
  words_given : uninterned_store_bytes (stored three_times) ≡ 3
  spellings_kept_once : interned_store_bytes (stored (Occurs glob ∷ Occurs variables ∷ Occurs glob ∷ [])) ≡ 20
  all_strings : interned_store_bytes (stored (Occurs
      glob ∷ Occurs glob ∷ three_times ++ Pushes (Number (codes "x")) ∷ Pushes (Word (codes "xy")) ∷ replaced)) ≡ 12
  spellings_given : uninterned_store_bytes (stored (Occurs glob ∷ Occurs glob ∷ [])) ≡ 8
  uses_are_recorded : token_numbers is_name_use 4 recorded ≡ 5 ∷ 7 ∷ []
  defs_are_recorded : token_numbers is_defs 0 recorded ≡ 2 ∷ []

computed : Computed
computed = search
