-- Worked examples of the laws: their premises can be met.
use Rattle.cweb_lines.proofs.Common.{◌≡◌, true, false, List, [], ◌∷◌, ◌++◌, Option, Some, None, refl, cond, codes, option_map, bytes_eq, list_any, lines, lines_in, World, is_include_line, Includes, is_change_code, HasOneEntry, ChangesReplaceLines, merge_outcome, renumbered, file_with_change, MergeOutcome, only_lines, placed, outcome_of_events, Event, raws, run_steps, started, written_lines, NoMatch, NoName}
use Rattle.std.specs.Str.{is_utf8, chars}
use lib.Utf8.{encode}

abbrev seen_by : Option (List Event) → Option MergeOutcome
seen_by None = None
seen_by (Some events) = Some (outcome_of_events events)

abbrev no_texts : World
no_texts = record { texts = λ _. None; inputs = None }

abbrev a_file_included : World
a_file_included = record {
  texts = λ args. cond (bytes_eq args (codes "b")) (Some (codes "B\n@i\n")) None;
  inputs =
      None;
}

-- A change that includes a file, its output, and that output merged again.
abbrev changed_web : Option MergeOutcome
changed_web = seen_by (run_steps 30 a_file_included (started (codes "A\nC\n") (Some (codes "@x\nA\n@y\n@i b\n@z\n"))))

include_line : Includes a_file_included (codes "@i b") (codes "b") (codes "B\n@i\n")
unfolding is_utf8 chars encode
include_line = record { include = refl; named = λ is. cc; found = refl }

-- The lines around an include line, and the lines of its file.
abbrev before_and_after : MergeOutcome
before_and_after = record {
  lines = placed 0 1 (codes "A" ∷ []) ++ placed 1 1 (codes "B" ∷ []) ++ placed 0 3 (codes "C" ∷ []);
  faults = record { kind = NoName; place = record { file = record { 0 = 1 }; line = 2 }; count = 0 } ∷ [];
  included = codes "b" ∷ [];
}

-- The entry replaces two lines, the second an include line, by three.
one_entry : HasOneEntry (lines (codes "@x that\nB\n@i gone\n@Y\nb\n\nbb\n@z")) (codes "B" ∷ codes "@i gone" ∷ [])
    (codes "b" ∷ [] ∷ codes "bb" ∷ [])
one_entry = record {
  x = codes "@x that";
  y = codes "@Y";
  z = codes "@z";
  whole = refl;
  begins = refl;
  turns = refl;
  ends = refl;
  others = refl;
}

-- The law at this entry. The line before it begins like its first line.
replaced_lines : ChangesReplaceLines → merge_outcome no_texts (codes "BA\nB\n@i gone\nB\nD")
    (Some (codes "@x that\nB\n@i gone\n@Y\nb\n\nbb\n@z"))
    ≡ only_lines (placed 0 1 (codes "BA" ∷ []) ++ placed 1 5 (codes "b" ∷ [] ∷ codes "bb" ∷ [])
    ++ placed 0 4 (codes "B" ∷ codes "D" ∷ []))
replaced_lines law = law no_texts (codes "BA\nB\n@i gone\nB\nD") (codes "@x that\nB\n@i gone\n@Y\nb\n\nbb\n@z")
    (codes "B") (codes "BA" ∷ []) (codes "@i gone" ∷ []) (codes "B" ∷ codes "D" ∷ [])
    (codes "b" ∷ [] ∷ codes "bb" ∷ []) refl one_entry (λ is. cc) refl refl

record Computed : Type 0 where
  web_without_includes : list_any is_include_line (lines (codes "one \n\n@ two")) ≡ false
  its_own_lines : seen_by (run_steps 10 no_texts (started (codes "one \n\n@ two") None))
      ≡ Some (only_lines (placed 0 1 (codes "one" ∷ [] ∷ codes "@ two" ∷ [])))
  change_file_without_entries : list_any is_change_code (lines (codes "a comment\n@ alone\n")) ≡ false
  -- the included file is file 2 instead of 1
  it_changes_nothing : seen_by (run_steps 20 a_file_included
      (started (codes "A\n@i b\n") (Some (codes "a comment\n@ alone\n"))))
      ≡ Some (record {
        lines = placed 0 1 (codes "A" ∷ []) ++ placed 2 1 (codes "B" ∷ []);
        faults = record { kind = NoName; place = record { file = record { 0 = 2 }; line = 2 }; count = 0 } ∷ [];
        included = codes "b" ∷ [];
      })
  it_is_as_without_it : option_map (renumbered file_with_change)
      (seen_by (run_steps 20 a_file_included (started (codes "A\n@i b\n") None)))
      ≡ seen_by (run_steps 20 a_file_included (started (codes "A\n@i b\n") (Some (codes "a comment\n@ alone\n"))))
  it_prints : option_map (λ s. written_lines s.lines) changed_web ≡ Some (codes "B\nC\n")
  it_prints_again : option_map (λ s. written_lines s.lines)
      (seen_by (run_steps 30 no_texts (started (codes "B\nC\n") None)))
      ≡ Some (codes "B\nC\n")
  it_is_replaced : seen_by (run_steps 20 a_file_included (started (codes "A\n@i b\nC\n") None)) ≡ Some before_and_after
  it_is_replaced_by_new_lines : seen_by (run_steps 30 no_texts (started (codes "BA\nB\n@i gone\nB\nD")
      (Some (codes "@x that\nB\n@i gone\n@Y\nb\n\nbb\n@z"))))
      ≡ Some (only_lines (placed 0 1 (codes "BA" ∷ []) ++ placed 1 5 (codes "b" ∷ [] ∷ codes "bb" ∷ [])
      ++ placed 0 4 (codes "B" ∷ codes "D" ∷ [])))
  -- the second entry is never reached
  entry_without_match : seen_by
      (run_steps 30 no_texts (started (codes "A\n") (Some (codes "why\n@x\nZ\n@z\n@x\nA\n@y\n@z\n"))))
      ≡ Some (record {
        lines = placed 0 1 (codes "A" ∷ []);
        faults = record { kind = NoMatch; place = record { file = record { 0 = 1 }; line = 2 }; count = 0 } ∷ [];
        included = [];
      })
  -- an included file at depth 2 as file 1: its lines are those of the file as a web
  it_merges_as_a_web : seen_by (run_steps 20 a_file_included (record
      { things = raws 2 true (lines_in 1 (codes "A\n@i b\n")); pending = None; change = []; files = 2 }))
      ≡ Some (record {
        lines = placed 1 1 (codes "A" ∷ []) ++ placed 2 1 (codes "B" ∷ []);
        faults = record { kind = NoName; place = record { file = record { 0 = 2 }; line = 2 }; count = 0 } ∷ [];
        included = codes "b" ∷ [];
      })

computed : Computed
unfolding is_utf8 chars encode
computed = search
