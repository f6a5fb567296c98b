-- Worked examples of command lines and merges.
use Rattle.cweb_tools.proofs.Common.{◌≡◌, ℕ, List, [], ◌∷◌, Option, Some, None, refl, ap, cond, codes, bytes_eq, map, Place, NotThere, Unequal, Usage, WebNotOpened, ChangeNotOpened, LineTooLong, WriteFault, Memory, World, Event, MergeStateModel, run_steps, started, merge-run_steps, line, source_item, stop_line, subject, web_names_by, Course, merging, course_of, merge_acts, logged_items, printed_bytes, acts_status, flat_map}
use Rattle.std.specs.Prelude.{◌++◌}
use Rattle.std.specs.Fmt.{digits}
use Rattle.cweb_lines.specs.declared.fault.SourceFault.{SourceFault}
use Rattle.cweb_lines.specs.declared.fault.SourceKind.{SourceKind}
use Rattle.cweb_lines.specs.declared.fault.SourceKind.TheVariants as source
use Rattle.cweb_lines.specs.declared.stop.Stop.TheVariants.{ReadFault, TooMuchText, OutNotOpened}
use Rattle.cweb_tools.specs.MergeActs.{unread, change_not_there}

-- A lone `-` as the second word means no change file.
dash_second : (web : List ℕ) → web_names_by (web ∷ codes "-" ∷ []) ≡ web_names_by (web ∷ [])
dash_second web = refl

-- Lines of the log.
abbrev place : ℕ → ℕ → Place
place file line = record { file = record { 0 = file }; line = line }

-- A folder with only one web.
abbrev one_web : List ℕ → Option (List ℕ)
one_web name = cond (bytes_eq name (codes "m.web")) (Some (codes "A\n")) None

-- A web and a change file. Its first entry replaces a line, its second one matches none.
abbrev web_and_change : List ℕ → Option (List ℕ)
web_and_change name = cond (bytes_eq name (codes "m.w")) (Some (codes "A\nB\n"))
    (cond (bytes_eq name (codes "c.ch")) (Some (codes "@x\nA\n@y\nN\n@z\n@x\nZ\n@y\n@z\n")) None)

abbrev there : World
there = record { texts = web_and_change; inputs = None }

abbrev begun : MergeStateModel
begun = started (codes "A\nB\n") (Some (codes "@x\nA\n@y\nN\n@z\n@x\nZ\n@y\n@z\n"))

abbrev events_of : Option (List Event) → List Event
events_of None = []
events_of (Some events) = events

abbrev changed_course : Course
changed_course = merging (codes "m.w" ∷ codes "c.ch" ∷ []) (events_of (run_steps 20 there begun))

changed_run : course_of web_and_change (codes "m" ∷ codes "c" ∷ []) None ≡ changed_course
changed_run = ap (λ (events : List Event). merging (codes "m.w" ∷ codes "c.ch" ∷ []) events)
    (merge-run_steps 20 there begun (events_of (run_steps 20 there begun)) refl)

-- The log of a whole run.
abbrev merge_log : Course → List ℕ
merge_log course = flat_map line (logged_items (merge_acts course))

abbrev source_fault : SourceKind → ℕ → ℕ → SourceFault
source_fault kind file number = record { kind = kind; place = place file number; count = 0 }

abbrev source_faults : List SourceFault
source_faults = source_fault source.NoName 0 1 ∷ source_fault source.TooDeep 0 2 ∷ source_fault source.NotThere 0 3
    ∷ source_fault source.MissingX 1 4 ∷ source_fault source.NoOldLines 1 5 ∷ source_fault source.EndedBeforeY 1 6
    ∷ source_fault source.WebEnded 1 7 ∷ source_fault source.WantsY 1 8
    ∷ record { kind = source.Unequal; place = place 1 9; count = 3 } ∷ source_fault source.WantsZ 1 10
    ∷ source_fault source.EndedBeforeZ 1 11 ∷ source_fault source.NoMatch 1 12 ∷ []

record Computed : Type 0 where
  -- A word without a dot in its last path part gets `.w`, and `.web` as a second try.
  web_without_extension : web_names_by (codes "lib.d/hello" ∷ [])
      ≡ Some (record { web = codes "lib.d/hello.w"; second = Some (codes "lib.d/hello.web"); change = None })
  web_with_extension : web_names_by (codes "lib/a.tex" ∷ [])
      ≡ Some (record { web = codes "lib/a.tex"; second = None; change = None })
  -- A lone `+` is an ordinary word.
  lone_plus : web_names_by (codes "+" ∷ [])
      ≡ Some (record { web = codes "+.w"; second = Some (codes "+.web"); change = None })
  no_words : web_names_by [] ≡ None
  empty_word : web_names_by ([] ∷ []) ≡ None
  lone_dash : web_names_by (codes "-" ∷ []) ≡ None
  option_word : web_names_by (codes "+x" ∷ []) ≡ None
  control_byte : web_names_by ((97 ∷ 127 ∷ []) ∷ []) ≡ None
  -- A change file gets `.ch`, and there is no second try.
  change_without_extension : web_names_by (codes "m.w" ∷ codes "d.d/c" ∷ [])
      ≡ Some (record { web = codes "m.w"; second = None; change = Some (codes "d.d/c.ch") })
  change_with_extension : web_names_by (codes "m" ∷ codes "d/c.x" ∷ [])
      ≡ Some (record { web = codes "m.w"; second = Some (codes "m.web"); change = Some (codes "d/c.x") })
  change_of_plus : web_names_by (codes "m.w" ∷ codes "+" ∷ [])
      ≡ Some (record { web = codes "m.w"; second = None; change = Some (codes "+.ch") })
  dash_first : web_names_by (codes "-" ∷ codes "c" ∷ []) ≡ None
  option_second : web_names_by (codes "m" ∷ codes "-b" ∷ []) ≡ None
  empty_second : web_names_by (codes "m" ∷ [] ∷ []) ≡ None
  control_byte_second : web_names_by (codes "m" ∷ (99 ∷ 31 ∷ []) ∷ []) ≡ None
  three_words : web_names_by (codes "m" ∷ codes "c" ∷ codes "x" ∷ []) ≡ None
  include_not_there : line (source_item (codes "a.w" ∷ []) (record { kind = NotThere; place = place 0 2; count = 0 }))
      ≡ codes "a.w:2: ! Cannot open include file\n"
  unequal_lines : line (source_item (codes "m.w" ∷ codes "c.ch" ∷ [])
      (record { kind = Unequal; place = place 1 1; count = 12 })) ≡ codes "c.ch:1: ! Lines that failed to match: 12\n"
  two_faults : flat_map line (map (source_item (codes "m.w" ∷ codes "c.ch" ∷ []))
      (record { kind = Unequal; place = place 1 10; count = 1 }
      ∷ record { kind = NotThere; place = place 0 3; count = 0 } ∷ []))
      ≡ codes "c.ch:10: ! Lines that failed to match: 1\nm.w:3: ! Cannot open include file\n"
  -- One of each kind, at lines from 1 on.
  source_lines : flat_map line (map (source_item (codes "m.w" ∷ codes "c.ch" ∷ [])) source_faults)
      ≡ codes "m.w:1: ! Include file name not given\nm.w:2: ! Too many nested includes\n"
      ++ codes "m.w:3: ! Cannot open include file\nc.ch:4: ! Missing @x in change file\n"
      ++ codes "c.ch:5: ! No old lines after @x\nc.ch:6: ! Change file ended before @y\n"
      ++ codes "c.ch:7: ! Web ended during a change\nc.ch:8: ! Where is @y?\n"
      ++ codes "c.ch:9: ! Lines that failed to match: 3\nc.ch:10: ! Where is @z?\n"
      ++ codes "c.ch:11: ! Change file ended before @z\nc.ch:12: ! Change entry did not match\n"
  usage_line : stop_line Usage (codes "wmerge webfile[.w] [{changefile[.ch]|-}]")
      ≡ codes "! Usage: wmerge webfile[.w] [{changefile[.ch]|-}]\n"
  web_line : stop_line WebNotOpened (codes "gone.w") ≡ codes "! Cannot open web file gone.w\n"
  change_line : stop_line ChangeNotOpened (codes "gone.ch") ≡ codes "! Cannot open change file gone.ch\n"
  memory_line : stop_line Memory (codes "gone.ch") ≡ codes "! Out of memory\n"
  long_line : stop_line (LineTooLong (record { 0 = 1 }))
      (subject (codes "m.w" ∷ codes "c.ch" ∷ []) (LineTooLong (record { 0 = 1 }))) ≡ codes "! Line too long in c.ch\n"
  read_line : stop_line (ReadFault (record { 0 = 0 }))
      (subject (codes "m.w" ∷ codes "c.ch" ∷ []) (ReadFault (record { 0 = 0 }))) ≡ codes "! Read fault on m.w\n"
  text_line : stop_line TooMuchText (subject [] TooMuchText) ≡ codes "! Too much text\n"
  output_line : stop_line OutNotOpened (codes "m.c") ≡ codes "! Cannot open output file m.c\n"
  write_line : stop_line WriteFault (subject [] WriteFault) ≡ codes "! Write fault on standard output\n"
  change_missing : course_of one_web (codes "m" ∷ codes "gone" ∷ []) None ≡ change_not_there (codes "gone.ch")
  -- If both are missing, the line is about the web, by its first name.
  both_missing : merge_log (course_of one_web (codes "n" ∷ codes "gone" ∷ []) None)
      ≡ codes "! Cannot open web file n.w\n"
  misread : course_of one_web (codes "-" ∷ codes "m" ∷ []) None ≡ unread
  changed_text : printed_bytes (merge_acts changed_course) ≡ codes "N\nB\n"
  changed_log : merge_log changed_course ≡ codes "c.ch:6: ! Change entry did not match\n"
  changed_status : acts_status (merge_acts changed_course) ≡ 1
  -- A lone `-` leaves the change file unread.
  unchanged_run : course_of web_and_change (codes "m" ∷ codes "-" ∷ []) None
      ≡ course_of web_and_change (codes "m" ∷ []) None

computed : Computed
unfolding digits
computed = search
