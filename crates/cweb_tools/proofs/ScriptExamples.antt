-- Worked examples: scripts of `ctangle`, with log, files and end.
use Rattle.cweb_tools.proofs.Common.{◌≡◌, true, false, List, ℕ, [], ◌∷◌, ◌++◌, codes, File, LogItem, fault, located, options_by, shown_by, shown_by_default, Shown, Planning, TangleCourse, change_not_there, not_there, planned, refused, tangling, tangle_files, tangle_status, unread, flat_map, line, logged_items, script}
use Rattle.std.specs.Fmt.{digits}

-- The log of a whole run.
abbrev pub tangle_log : Shown → TangleCourse → List ℕ
tangle_log shown course = flat_map line (logged_items (script shown course))

-- What an option word shows.
abbrev shown_with : List ℕ → Shown
shown_with word = shown_by (options_by (word ∷ codes "a" ∷ []))

abbrev quiet : Shown
quiet = shown_with (codes "-bph")

abbrev file : List ℕ → List ℕ → File
file name bytes = record { name = name; bytes = bytes }

-- A web with these numbers of sections and names, starred sections, faults and plan.
abbrev course : ℕ → ℕ → List ℕ → List LogItem → Planning → TangleCourse
course sections names stars faults plan = tangling [] []
    (record {
      starred = stars;
      faults = faults;
      numbers = record { sections = sections; names = names; macros = 0 };
      plan = plan;
    })

-- Two sections, one of them starred, and one output.
abbrev plain : TangleCourse
plain = course 2 1 (1 ∷ []) [] (planned (file (codes "hello.c") (codes "x\n") ∷ []) false)

-- Without program text there is a warning, and the main output is still written.
abbrev textless : TangleCourse
textless = course 0 0 [] [] (planned (file (codes "empty.c") [] ∷ []) true)

-- A cycle is one more fault, and no file is written.
abbrev endless : TangleCourse
endless = course 3 2 [] [] (refused (codes "Cycle: <A> <B> <A>"))

-- A scan fault, a fault of a name, and two outputs.
abbrev faulty : TangleCourse
faulty = course 1 0 [] (located (codes "f.w") 3 (codes "String did not end") ∷ fault (codes "Not present: <Q>") ∷ [])
    (planned (file (codes "f.c") (codes "M\n") ∷ file (codes "a.h") (codes "A\n") ∷ []) true)

record Computed : Type 0 where
  plain_log : tangle_log (shown_with (codes "+s")) plain
      ≡ codes "This is CTANGLE, profile of CWEB 3\n*1\nWriting hello.c\nSections: 2. Names: 1. Macros: 0.\n"
      ++ codes "(No errors were found.)\n"
  plain_files : tangle_files quiet plain ≡ file (codes "hello.c") (codes "x\n") ∷ []
  quiet_log : tangle_log quiet plain ≡ []
  plain_status : tangle_status quiet plain ≡ 0
  textless_log : tangle_log shown_by_default textless
      ≡ codes "This is CTANGLE, profile of CWEB 3\n! No program text\nWriting empty.c\n(Did you see the warning?)\n"
  textless_status : tangle_status shown_by_default textless ≡ 0
  endless_log : tangle_log shown_by_default endless
      ≡ codes "This is CTANGLE, profile of CWEB 3\n! Cycle: <A> <B> <A>\n(Faults: 1.)\n"
  endless_files : tangle_files shown_by_default endless ≡ []
  endless_status : tangle_status quiet endless ≡ 1
  faulty_log : tangle_log shown_by_default faulty
      ≡ codes "This is CTANGLE, profile of CWEB 3\nf.w:3: ! String did not end\n! Not present: <Q>\n"
      ++ codes "! No program text\nWriting f.c\nWriting a.h\n(Faults: 2.)\n"
  faulty_files : tangle_files quiet faulty ≡ file (codes "f.c") (codes "M\n") ∷ file (codes "a.h") (codes "A\n") ∷ []
  -- Words that can't be read give only one line. A missing web is reported after the banner.
  unread_log : tangle_log shown_by_default unread
      ≡ codes "! Usage: ctangle [options] webfile[.w] [{changefile[.ch]|-} [outfile[.c]]]\n"
  gone_log : tangle_log shown_by_default (not_there (codes "gone.w"))
      ≡ codes "This is CTANGLE, profile of CWEB 3\n! Cannot open web file gone.w\n"
  gone_status : tangle_status quiet (not_there (codes "gone.w")) ≡ 1
  change_log : tangle_log quiet (change_not_there (codes "c.ch")) ≡ codes "! Cannot open change file c.ch\n"

computed : Computed
unfolding digits
computed = search
