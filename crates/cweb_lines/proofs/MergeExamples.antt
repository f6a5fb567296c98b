-- Worked examples of merges.
use Rattle.cweb_lines.proofs.Common.{◌≡◌, ◌+◌, ℕ, zero, suc, List, [], ◌∷◌, ◌++◌, map, Option, Some, None, cond, codes, bytes_eq, ◌⊎◌, inl, inr, Place, SourceFault, SourceKind, TooDeep, NotThere, MissingX, NoOldLines, EndedBeforeY, WebEnded, WantsY, Unequal, WantsZ, EndedBeforeZ, NoMatch, Line, lines, World, Event, run_steps, started, emitted_lines, reported_faults, openings, taken_lines, OPEN_FILES, LINE_LENGTH, LINES, BYTES}
use Rattle.cweb_lines.specs.Events.{took, fault as fault_event}
use Rattle.std.specs.Str.{is_utf8, chars}
use lib.Utf8.{encode}

-- The events without the lines taken.
record Outcome : Type 0 where
  lines : List Line
  faults : List SourceFault
  names : List (List ℕ)

abbrev outcome_of : Option (List Event) → Option Outcome
outcome_of None = None
outcome_of (Some events) = Some (record {
  lines = emitted_lines events;
  faults = reported_faults events;
  names =
      openings events;
})

abbrev taken_of : Option (List Event) → Option (List Line)
taken_of None = None
taken_of (Some events) = Some (map (λ source. source.line) (taken_lines events))

-- The lines taken and the faults, in order.
abbrev in_order : List Event → List (Line ⊎ SourceFault)
in_order [] = []
in_order (took source ∷ events) = inl source.line ∷ in_order events
in_order (fault_event f ∷ events) = inr f ∷ in_order events
in_order (_ ∷ events) = in_order events

abbrev order_of : Option (List Event) → Option (List (Line ⊎ SourceFault))
order_of None = None
order_of (Some events) = Some (in_order events)

abbrev place : ℕ → ℕ → Place
place file number = record { file = record { 0 = file }; line = number }

abbrev line : List ℕ → ℕ → ℕ → Line
line bytes file number = record { bytes = bytes; place = place file number }

abbrev fault : SourceKind → ℕ → ℕ → SourceFault
fault kind file number = record { kind = kind; place = place file number; count = 0 }

abbrev unequal : ℕ → ℕ → ℕ → SourceFault
unequal file number count = record { kind = Unequal; place = place file number; count = count }

abbrev no_texts : World
no_texts = record { texts = λ _. None; inputs = None }

abbrev one_text : List ℕ → List ℕ → World
one_text name text = record { texts = λ args. cond (bytes_eq args name) (Some text) None; inputs = None }

-- The first lines of files 0 to n, each included by the one before.
abbrev firsts : ℕ → ℕ → List Line
firsts zero from = []
firsts (suc n) from = line (codes "P") from 1 ∷ firsts n (from + 1)

abbrev lasts : ℕ → List Line
lasts zero = []
lasts (suc n) = line (codes "Q") n 3 ∷ lasts n

abbrev copies : ℕ → List (List ℕ)
copies zero = []
copies (suc n) = codes "a.w" ∷ copies n

abbrev in_lib : World
in_lib = record {
  texts = λ args. cond (bytes_eq args (codes "lib/b.w")) (Some (codes "two\n")) None;
  inputs =
      Some (codes "lib");
}

record Computed : Type 0 where
  -- trailing blanks are dropped, and there is no line after the last newline
  blanks_at_line_ends : lines (120 ∷ 32 ∷ 13 ∷ 10 ∷ 10 ∷ 121 ∷ 9 ∷ []) ≡ codes "x" ∷ [] ∷ codes "y" ∷ []
  -- a last line without newline that has only blanks is an empty line
  last_line_of_blanks : lines (codes "x\n  ") ≡ codes "x" ∷ [] ∷ []
  blanks_merged : outcome_of (run_steps 10 no_texts (started (120 ∷ 32 ∷ 13 ∷ 10 ∷ 10 ∷ 121 ∷ 9 ∷ []) None)) ≡ Some
      (record { lines = line (codes "x") 0 1 ∷ line [] 0 2 ∷ line (codes "y") 0 3 ∷ []; faults = []; names = [] })
  empty_web : outcome_of (run_steps 10 no_texts (started [] None))
      ≡ Some (record { lines = []; faults = []; names = [] })
  -- an include line is compared with the first old line before it is obeyed
  include_line_replaced : outcome_of (run_steps 20 no_texts (started (codes "A\n@i gone.w\nB\n")
      (Some (codes "@x\n@i gone.w\n@y\nnew\n@z\n"))))
      ≡ Some (record {
        lines = line (codes "A") 0 1 ∷ line (codes "new") 1 4 ∷ line (codes "B") 0 3 ∷ [];
        faults = [];
        names = [];
      })
  -- further old lines drop raw lines across the end of an included file, even unequal ones
  change_over_a_file_end : outcome_of (run_steps 20 (one_text (codes "inc.w") (codes "I1\nI2\n"))
      (started (codes "@i inc.w\nL2\nL3\n") (Some (codes "@x\nI2\nLX\n@y\nN\n@z\n"))))
      ≡ Some (record {
        lines = line (codes "I1") 2 1 ∷ line (codes "N") 1 5 ∷ line (codes "L3") 0 3 ∷ [];
        faults =
            unequal 1 1 1 ∷ [];
        names = codes "inc.w" ∷ [];
      })
  -- each old line is taken before the raw line that it drops; a code line drops none
  old_lines_and_raw_lines_in_turn : taken_of (run_steps 20 no_texts (started (codes "A\nB\nC\n")
      (Some (codes "@x\nA\nB\n@x\nD\n@y\n@z\n"))))
      ≡ Some (line (codes "@x") 1 1 ∷ line (codes "A") 1 2 ∷ line (codes "A") 0 1 ∷ line (codes "B") 1 3
      ∷ line (codes "B") 0 2 ∷ line (codes "@x") 1 4 ∷ line (codes "D") 1 5 ∷ line (codes "C") 0 3
      ∷ line (codes "@y") 1 6 ∷ line (codes "@z") 1 7 ∷ [])
  -- the fault of a line comes after it, before the next line; the faults of a whole old side come after all its lines
  faults_among_the_lines : order_of (run_steps 20 no_texts (started (codes "A\nB\n")
      (Some (codes "@y\n@x\nA\n@x\nQ\n@y\n@z\n"))))
      ≡ Some (inl (line (codes "@y") 1 1) ∷ inr (fault MissingX 1 1) ∷ inl (line (codes "@x") 1 2)
      ∷ inl (line (codes "A") 1 3) ∷ inl (line (codes "A") 0 1) ∷ inl (line (codes "@x") 1 4)
      ∷ inr (fault WantsY 1 4) ∷ inl (line (codes "Q") 1 5) ∷ inl (line (codes "B") 0 2) ∷ inl (line (codes "@y") 1 6)
      ∷ inr (unequal 1 2 1) ∷ inl (line (codes "@z") 1 7) ∷ [])
  entry_without_old_lines : outcome_of (run_steps 20 no_texts (started (codes "A\n") (Some (codes "@x\n"))))
      ≡ Some (record { lines = line (codes "A") 0 1 ∷ []; faults = fault NoOldLines 1 1 ∷ []; names = [] })
  entry_that_matches_nothing : outcome_of
      (run_steps 20 no_texts (started (codes "A\n") (Some (codes "@x\nZ\n@y\n@z\n"))))
      ≡ Some (record { lines = line (codes "A") 0 1 ∷ []; faults = fault NoMatch 1 1 ∷ []; names = [] })
  -- at most `OPEN_FILES` files are open: the include line of the deepest is a fault
  file_that_includes_itself : outcome_of (run_steps 90 (one_text (codes "a.w") (codes "P\n@i a.w\nQ\n"))
      (started (codes "P\n@i a.w\nQ\n") None))
      ≡ Some (record { lines = firsts 20 0 ++ lasts 20; faults = fault TooDeep 19 2 ∷ []; names = copies 19 })
  -- a file is sought under its name, then in the folder
  include_in_a_folder : outcome_of (run_steps 20 in_lib (started (codes "one\n@i b.w\nthree\n@i gone\n") None))
      ≡ Some (record {
        lines = line (codes "one") 0 1 ∷ line (codes "two") 1 1 ∷ line (codes "three") 0 3 ∷ [];
        faults =
            fault NotThere 0 4 ∷ [];
        names = codes "lib/b.w" ∷ [];
      })
  -- misplaced codes
  stray_codes : outcome_of (run_steps 30 no_texts (started (codes "A\nB\n")
      (Some (codes "@y\n@x\nA\n@x\nQ\n@y\nN\n@y\nM\n@z\n"))))
      ≡ Some (record {
        lines = line (codes "N") 1 7 ∷ line (codes "M") 1 9 ∷ [];
        faults = fault MissingX 1 1 ∷ fault WantsY 1 4 ∷ unequal 1 2 1 ∷ fault WantsZ 1 8 ∷ [];
        names = [];
      })
  change_file_ends_among_old_lines : outcome_of
      (run_steps 30 no_texts (started (codes "A\n") (Some (codes "@x\nA\nB\nC\n"))))
      ≡ Some (record { lines = []; faults = fault EndedBeforeY 1 1 ∷ fault WebEnded 1 1 ∷ []; names = [] })
  change_file_ends_among_new_lines : outcome_of
      (run_steps 30 no_texts (started (codes "A\n") (Some (codes "@x\nA\n@y\nN\n"))))
      ≡ Some (record { lines = line (codes "N") 1 4 ∷ []; faults = fault EndedBeforeZ 1 1 ∷ []; names = [] })
  -- lines that a new line includes match no entry
  new_lines_do_not_match : outcome_of (run_steps 30 (one_text (codes "inc.w") (codes "B\n"))
      (started (codes "A\nB\n") (Some (codes "@x\nA\n@y\n@i inc.w\n@z\n@x\nB\n@y\nC\n@z\n"))))
      ≡ Some (record {
        lines = line (codes "B") 2 1 ∷ line (codes "C") 1 9 ∷ [];
        faults = [];
        names =
            codes "inc.w" ∷ [];
      })
  -- a change of two lines, the second an include line, and one that only deletes a line
  two_changes : outcome_of (run_steps 30 no_texts (started (codes "A\nB\n@i gone\nC\nD\n")
      (Some (codes "why\n@x that\nB\n@i gone\n@y\nb\nbb\n@z\n@X\nC\n@Y\n@Z\nend"))))
      ≡ Some (record {
        lines = line (codes "A") 0 1 ∷ line (codes "b") 1 6 ∷ line (codes "bb") 1 7 ∷ line (codes "D") 0 5 ∷ [];
        faults = [];
        names = [];
      })
  -- the limits
  longest : LINE_LENGTH ≡ 1048575
  most_lines : LINES ≡ 16777216
  most_bytes : BYTES ≡ 1073741824
  most_open_files : OPEN_FILES ≡ 20

computed : Computed
unfolding is_utf8 chars encode
computed = search
