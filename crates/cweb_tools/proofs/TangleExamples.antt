-- Worked examples: whole runs of `ctangle`, from files and words to log, files and status.
use Rattle.cweb_tools.proofs.Common.{◌≡◌, ℕ, List, [], ◌∷◌, ◌++◌, Option, Some, None, refl, ap, ◌∙◌, cond, codes, bytes_eq, File, World, Event, MergeStateModel, run_steps, started, merge, merge-run_steps, OptionsModel, options_by, TangleCourse, tangle_files, tangle_status, shown_by, tangle_course, tangled, printed_bytes, depend_acts}
use Rattle.cweb_tools.proofs.ScriptExamples.{tangle_log}
use Rattle.std.specs.Fmt.{digits}
use Rattle.std.specs.Str.{is_utf8, chars}
use lib.Utf8.{encode}
use Rattle.cweb_tools.specs.MergeActs as course
use Rattle.cweb_tools.specs.Depend.{targets_by}
use Rattle.cweb_tools.specs.declared.rule_targets.Targets.TheVariants.{All}

-- The effect of a run.
pub record Left : Type 0 where
  pub log : List ℕ
  pub files : List File
  pub status : ℕ

abbrev pub left_of : Option OptionsModel → TangleCourse → Left
left_of args course =
    record {
      log = tangle_log (shown_by args) course;
      files = tangle_files (shown_by args) course;
      status = tangle_status (shown_by args) course;
    }

-- The effect for these files and words.
abbrev pub left_by : World → List (List ℕ) → Left
left_by there words = left_of (options_by words) (tangle_course there (options_by words))

abbrev pub file : List ℕ → List ℕ → File
file name bytes = record { name = name; bytes = bytes }

abbrev pub text_in : List ℕ → List ℕ → List ℕ → Option (List ℕ)
text_in name text sought = cond (bytes_eq name sought) (Some text) None

-- A folder with only a web.
abbrev pub one_web : List ℕ → List ℕ → World
one_web name text = record { texts = text_in name text; inputs = None }

-- The events of a merge that has ended.
abbrev pub events_of : Option (List Event) → List Event
events_of None = []
events_of (Some events) = events

-- The course of a run whose merge begins with these files open. Its steps are few.
abbrev pub merging : World → MergeStateModel → List (List ℕ) → List ℕ → TangleCourse
merging there begun files main = tangled main (course.merging files (events_of (run_steps 40 there begun)))

-- The effect of such a run follows from its lines.
runs_to : (there : World) (begun : MergeStateModel) (files : List (List ℕ)) (main : List ℕ) (words : List (List ℕ))
    (left : Left)
    → tangle_course there (options_by words) ≡ tangled main (course.merging files (merge there begun))
    → run_steps 40 there begun ≡ Some (events_of (run_steps 40 there begun))
    → left_of (options_by words) (merging there begun files main) ≡ left → left_by there words ≡ left
runs_to there begun files main words left is few computed = ap (left_of (options_by words))
    (is ∙ ap (λ (events : List Event). tangled main (course.merging files events))
    (merge-run_steps 40 there begun _ few))
    ∙ computed

-- Two sections. The first uses the name of the second.
abbrev pub hello_text : List ℕ
hello_text =
    codes "@ Hello.\n@c\n#include <stdio.h>\nint main(void) { @<Greet@> return 0; }\n@ @<Greet@>=\nputs(\"hi\");\n"

pub hello_run : left_by (one_web (codes "hello.w") hello_text) (codes "hello" ∷ []) ≡ record {
  log = codes "This is CTANGLE, profile of CWEB 3\nWriting hello.c\n(No errors were found.)\n";
  files = file (codes "hello.c") (codes "/*1:*/\n#line 2 \"hello.w\"\n\n#include <stdio.h>\nint main(void){/*2:*/\n"
      ++ codes "#line 5 \"hello.w\"\n\nputs(\"hi\");/*:2*/\n#line 4 \"hello.w\"\nreturn 0;}\n/*:1*/\n")
      ∷ [];
  status = 0;
}
unfolding digits is_utf8 chars encode
hello_run = runs_to (one_web (codes "hello.w") hello_text) (started hello_text None) (codes "hello.w" ∷ [])
    (codes "hello.c") (codes "hello" ∷ []) _ refl refl refl

-- A macro, a file of its own, and a literal that doesn't end: two outputs and a fault.
abbrev two_text : List ℕ
two_text = codes "@ @d M 1\n@(a.h@>=\nint m=\"x\n"

two_run : left_by (one_web (codes "f.w") two_text) (codes "-bph" ∷ codes "f" ∷ []) ≡ record {
  log = codes "f.w:3: ! String did not end\n";
  files = file (codes "f.c") (codes "#define M 1\n")
      ∷ file (codes "a.h") (codes "/*1:*/\n#line 2 \"f.w\"\n\nint m=\"x/*:1*/\n") ∷ [];
  status = 1;
}
unfolding digits is_utf8 chars encode
two_run = runs_to (one_web (codes "f.w") two_text) (started two_text None) (codes "f.w" ∷ []) (codes "f.c")
    (codes "-bph" ∷ codes "f" ∷ []) _ refl refl refl

-- Names that use each other: nothing is written.
abbrev cycle_text : List ℕ
cycle_text = codes "@ @c @<A@>\n@ @<A@>= @<B@>\n@ @<B@>= @<A@>\n"

cycle_run : left_by (one_web (codes "c.w") cycle_text) (codes "c" ∷ []) ≡ record {
  log = codes "This is CTANGLE, profile of CWEB 3\n! Cycle: <A> <B> <A>\n(Faults: 1.)\n";
  files = [];
  status = 1;
}
unfolding digits is_utf8 chars encode
cycle_run = runs_to (one_web (codes "c.w") cycle_text) (started cycle_text None) (codes "c.w" ∷ []) (codes "c.c")
    (codes "c" ∷ []) _ refl refl refl

-- A line that a change file replaces, with marks for the place of each line.
abbrev changed_texts : List ℕ → Option (List ℕ)
changed_texts sought = cond (bytes_eq sought (codes "v.w"))
    (Some (codes "@ @c\na;\nb;\nc;\n")) (text_in (codes "v.ch") (codes "@x\nb;\n@y\nB;\n@z\n") sought)

changed_run : left_by (record { texts = changed_texts; inputs = None }) (codes "-bph" ∷ codes "v" ∷ codes "v" ∷ [])
    ≡ record {
      log = [];
      files =
          file (codes "v.c") (codes "/*1:*/\n#line 1 \"v.w\"\n\na;\n#line 4 \"v.ch\"\nB;\n#line 4 \"v.w\"\nc;/*:1*/\n")
          ∷ [];
      status = 0;
    }
unfolding digits is_utf8 chars encode
changed_run = runs_to (record { texts = changed_texts; inputs = None })
    (started (codes "@ @c\na;\nb;\nc;\n") (Some (codes "@x\nb;\n@y\nB;\n@z\n")))
    (codes "v.w" ∷ codes "v.ch" ∷ []) (codes "v.c") (codes "-bph" ∷ codes "v" ∷ codes "v" ∷ []) _ refl refl refl

-- `wdep` prints the outputs, or the first one, and the inputs.
two_depend : printed_bytes (depend_acts All (merging (one_web (codes "f.w") two_text) (started two_text None)
    (codes "f.w" ∷ []) (codes "f.c"))) ≡ codes "f.c a.h: f.w\n"
unfolding digits is_utf8 chars encode
two_depend = refl

main_depends : printed_bytes (depend_acts (targets_by (codes "-m" ∷ codes "+bm" ∷ codes "f" ∷ []))
    (merging (one_web (codes "f.w") two_text) (started two_text None) (codes "f.w" ∷ []) (codes "f.c")))
    ≡ codes "f.c: f.w\n"
unfolding digits is_utf8 chars encode
main_depends = refl
