-- Worked examples: log lines for the faults of a web.
use Rattle.cweb_tools.proofs.Common.{◌≡◌, true, false, List, ℕ, [], ◌∷◌, ◌++◌, codes, Some, None, flat_map, Stored, Occurrence, id, Part, Name, NameRef, PartKind, Full, Prefix, Unnamed, Named, ScanFault, ScanKind, DoubleAtInLimbo, ImproperHexNumber, ReplacementTooLong, LetterOutsideLimbo, NameDidNotEnd, NamesDoNotNest, CommentDidNotEnd, StringDidNotEnd, DoubleAtInString, ControlTextDidNotEnd, FaultyConstant, IgnoredInCText, MissingAt, DefsInMacro, DefinitionDropped, bad_name, same_name, cycle, cycle_from, first_endless, program, line, name_items, refusal_message, scan_item, map}
use Rattle.std.specs.Fmt.{digits}

abbrev met : ScanKind → ℕ → ScanFault
met kind number = record { kind = kind; place = record { file = record { 0 = 0 }; line = number } }

-- One of each kind.
abbrev faults : List ScanFault
faults = met DoubleAtInLimbo 1 ∷ met
    ImproperHexNumber 2 ∷ met ReplacementTooLong 3 ∷ met LetterOutsideLimbo 4 ∷ met NameDidNotEnd 5 ∷ met NamesDoNotNest
    6 ∷ met CommentDidNotEnd 7 ∷ met StringDidNotEnd 8 ∷ met DoubleAtInString 9 ∷ met ControlTextDidNotEnd 10 ∷ met
    FaultyConstant 11 ∷ met IgnoredInCText 12 ∷ met MissingAt 13 ∷ met DefsInMacro 14 ∷ met DefinitionDropped 15 ∷ []

abbrev full : List ℕ → Occurrence
full text = record { text = text; how = Full; is_file = false }

abbrev short : List ℕ → Occurrence
short text = record { text = text; how = Prefix; is_file = false }

abbrev file : List ℕ → Occurrence
file text = record { text = text; how = Full; is_file = true }

-- An ambiguous abbreviation, one without a match, a prefix of another name, and a file's name without a part.
abbrev faulty : Stored
faulty =
    record {
      occurrences =
          full (codes "ab") ∷ full (codes "abc") ∷ short (codes "a") ∷ short (codes "z") ∷ file (codes "q.h") ∷ [];
      parts = [];
      replacements = [];
    }

abbrev use_of : ℕ → NameRef
use_of n = record { 0 = n }

abbrev part : PartKind → ℕ → Part
part kind n = record { kind = kind; tokens = Name (use_of n) ∷ [] }

-- The program uses a name, and two names use each other.
abbrev endless : Stored
endless = record {
  occurrences = full (codes "A") ∷ full (codes "A") ∷ full (codes "B") ∷ full (codes "B") ∷ full (codes "A") ∷ [];
  parts = part Unnamed 0 ∷ part (Named (use_of 1)) 2 ∷ part (Named (use_of 3)) 4 ∷ [];
  replacements = [];
}

-- A file's name that equals the main output's, and names that no file can have.
abbrev one_file : Stored
one_file =
    record {
      occurrences = file (codes "h.c") ∷ [];
      parts = record { kind = Named (use_of 0); tokens = [] } ∷ [];
      replacements = [];
    }

record Computed : Type 0 where
  scan_lines : flat_map line (map (scan_item (codes "u.w" ∷ [])) faults)
      ≡ codes "u.w:1: ! Double @ in limbo\nu.w:2: ! Improper hex number after @l\n"
      ++ codes "u.w:3: ! Replacement after @l too long\nu.w:4: ! Use @l in limbo only\n"
      ++ codes "u.w:5: ! Section name did not end\nu.w:6: ! Section names do not nest\n"
      ++ codes "u.w:7: ! Comment did not end\nu.w:8: ! String did not end\nu.w:9: ! Double @ in strings\n"
      ++ codes "u.w:10: ! Control text did not end\nu.w:11: ! Faulty ASCII constant\n"
      ++ codes "u.w:12: ! @d, @f, @s, @c and @p are ignored in C text\n"
      ++ codes "u.w:13: ! Missing @ before a named section\nu.w:14: ! @h is ignored in a macro\n"
      ++ codes "u.w:15: ! Definition dropped, no identifier\n"
  name_lines : flat_map line (name_items faulty) ≡ codes "! Ambiguous prefix: <a...>\n! Never given in full: <z...>\n"
      ++ codes "! Name is a prefix of another: <ab>\n! Not present: <q.h>\n"
  cycle_reported : refusal_message endless (codes "c.c")
      (cycle (cycle_from endless (first_endless endless (program endless))))
      ≡ codes "Cycle: <A> <B> <A>"
  same_name_reported : refusal_message one_file (codes "h.c")
      (same_name (id 0)) ≡ codes "Two outputs with one name: <h.c>"
  bad_name_reported : refusal_message one_file (codes "c.c") (bad_name (Some (id 0))) ≡ codes "Bad output name: <h.c>"
  bad_main_reported : refusal_message one_file (codes "..") (bad_name None) ≡ codes "Bad output name: <..>"

computed : Computed
unfolding digits
computed = search
