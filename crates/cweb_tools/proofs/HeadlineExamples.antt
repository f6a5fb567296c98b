-- The headline theorems on the web hello.w, alone in its folder: if nothing fails, the files or the output, the log and
-- the status are these. So the premises of the headlines can be met, and what they promise is what users see.
use Rattle.cweb_tools.proofs.Common.{SinkContents, ◌≡◌, ◌≢◌, ℕ, List, [], ◌∷◌, ◌++◌, refl, sym, ◌∙◌, ap, subst, rules, Option, None, IsSome, codes, flat_map, File, World, world_of, Event, run_steps, started, merge, merge-run_steps, taken_lines, IsWithinLimits, Memory, LogItem, line, stop_line, OptionsModel, options_by, WebNames, web_names_by, Devices, appended, changed, with_printed, files_in, Act, logged_items, acts_status, ActsKeepLimits, written_files, RanFreely, Course, IsMergeCourse, merging, merge_course, merge_acts, merge_devices, TangleCourse, IsTangleCourse, tangle_course, tangle_files, tangle_status, tangled, printed_bytes, script, shown_by, depend_acts}
use Rattle.cweb_files.specs.Files.{put_file}
use Rattle.std.specs.Prelude.{fold, option_map}
use Rattle.cweb_files.proofs.Appending.{appended_none, appended_on}
use Rattle.std.specs.Fmt.{digits}
use Rattle.std.specs.Str.{is_utf8, chars}
use lib.Utf8.{encode}
use Rattle.cweb_tools.specs.Depend.{DependsFreely, targets_by}
use Rattle.cweb_tools.specs.MergeActs.{MergesFreely}
use Rattle.cweb_tools.specs.Tangle.{TanglesFreely}
use Rattle.cweb_tools.specs.declared.rule_targets.Targets.TheVariants.{All}
use Rattle.cweb_tools.proofs.TanglePromisesProved.{merge_comes, tangle_comes}
use Rattle.cweb_tools.proofs.ScriptExamples.{tangle_log}
use Rattle.cweb_tools.proofs.TangleExamples.{Left, events_of, file, hello_run, hello_text, text_in}

-- No count of failures rose, and the log doesn't end with the line that memory ran out.
pub record NothingFailed (before after : Devices) : Type 0 where
  pub shelf : after.shelf.failed ≡ before.shelf.failed
  pub out : after.out.failed ≡ before.out.failed
  pub log : after.log.failed ≡ before.log.failed
  pub memory : (first : Option SinkContents) → after.log.contents ≢ appended (stop_line Memory []) first

-- Then a run within the limits ran freely.
free : {acts : List Act} {before after : Devices} → ActsKeepLimits acts → NothingFailed before after
    → RanFreely acts before after
free {before = before} within none = record {
  shelf = none.shelf;
  out = none.out;
  log = none.log;
  within = within;
  memory = λ done later act is needs same.
      none.memory (appended (flat_map line (logged_items done)) before.log.contents)
      (same ∙ sym (appended_on (flat_map line (logged_items done)) (stop_line Memory []) before.log.contents));
}

-- The files of the folder, and the words of each run.
abbrev pub hello_contents : List ℕ → Option (List ℕ)
hello_contents = text_in (codes "hello.w") hello_text

abbrev pub hello_words : List (List ℕ)
hello_words = codes "hello" ∷ []

abbrev there : World
there = world_of hello_contents None

abbrev args : Option OptionsModel
args = options_by hello_words

abbrev names : Option WebNames
names = web_names_by hello_words

-- The merge takes few steps, and few short lines.
abbrev events : List Event
events = events_of (run_steps 40 there (started hello_text None))

few_steps : merge there (started hello_text None) ≡ events
few_steps = merge-run_steps 40 there (started hello_text None) events refl

few_lines : IsWithinLimits (taken_lines events)
few_lines = search rules

abbrev course : Course
course = merging (codes "hello.w" ∷ []) events

course_is : merge_course there names ≡ course
course_is = ap (λ (es : List Event). merging (codes "hello.w" ∷ []) es) few_steps

comes : IsMergeCourse there names course
comes = subst (IsMergeCourse there names) course_is (merge_comes there names)

abbrev web_course : TangleCourse
web_course = tangled (codes "hello.c") course

web_comes : IsTangleCourse there args web_course
web_comes = subst (IsTangleCourse there args) (ap (tangled (codes "hello.c")) course_is) (tangle_comes there args)

-- What the headline of `ctangle` says of this web.
pub record HelloTangled (before after : Devices) (status : ℕ) : Type 0 where
  pub files : files_in after.out ≡ option_map (λ (files : List File). fold put_file files (file (codes "hello.c")
      (codes "/*1:*/\n#line 2 \"hello.w\"\n\n#include <stdio.h>\nint main(void){/*2:*/\n"
      ++ codes "#line 5 \"hello.w\"\n\nputs(\"hi\");/*:2*/\n#line 4 \"hello.w\"\nreturn 0;}\n/*:1*/\n") ∷ []))
      (files_in before.out)
  pub log : after.log.contents ≡ appended
      (codes "This is CTANGLE, profile of CWEB 3\nWriting hello.c\n(No errors were found.)\n") before.log.contents
  pub status_is : status ≡ 0

tangle_within : ActsKeepLimits (script (shown_by args) web_course)
unfolding digits is_utf8 chars encode
tangle_within = search (rules, few_lines)

-- A run on a shelf with these files, by the effect that is computed for it.
pub hello_tangled : (texts : List ℕ → Option (List ℕ)) (before after : Devices) (status : ℕ)
    → IsSome before.shelf.blamed → texts ≡ hello_contents → NothingFailed before after
    → TanglesFreely (world_of texts None) (options_by hello_words) before after status
    → HelloTangled before after status
hello_tangled texts before after status some alone none run =
    let run_there = subst (λ (texts : List ℕ → Option (List ℕ)). TanglesFreely (world_of texts None)
    args before after status) alone run in
    let is : web_course ≡ tangle_course there args = sym (ap (tangled (codes "hello.c")) course_is) in
    let did = run_there some web_course web_comes (free tangle_within none) in
    let put : List File → Option (List File) = λ written.
    option_map (λ (files : List File). fold put_file files written) (files_in before.out) in record {
      files = did.files ∙ ap (λ (c : TangleCourse). put (tangle_files (shown_by args) c)) is
          ∙ ap (λ (left : Left). put left.files) hello_run;
      log = did.logged ∙ ap (λ (c : TangleCourse). appended (tangle_log (shown_by args) c) before.log.contents) is
          ∙ ap (λ (left : Left). appended left.log before.log.contents) hello_run;
      status_is = did.answered ∙ ap (tangle_status (shown_by args)) is ∙ ap (λ (left : Left). left.status) hello_run;
    }

-- What the headline of `wmerge` says of this web. No line has a blank at its end, so the lines are printed as they are.
pub record HelloMerged (before after : Devices) (status : ℕ) : Type 0 where
  pub printed : (merge_devices after).out ≡ changed (with_printed hello_text) (merge_devices before).out
  pub log : after.log.contents ≡ before.log.contents
  pub status_is : status ≡ 0

merge_within : ActsKeepLimits (merge_acts course)
merge_within = search (rules, few_lines)

merge_text : printed_bytes (merge_acts course) ≡ hello_text
merge_text = refl

pub hello_merged : (texts : List ℕ → Option (List ℕ)) (before after : Devices) (status : ℕ)
    → IsSome before.shelf.blamed → texts ≡ hello_contents → NothingFailed before after
    → MergesFreely (world_of texts None) (web_names_by hello_words) before after status
    → HelloMerged before after status
hello_merged texts before after status some alone none run =
    let run_there = subst (λ (texts : List ℕ → Option (List ℕ)). MergesFreely (world_of texts None)
    names before after status) alone run in
    let did = run_there some course comes (free merge_within
    (record { shelf = none.shelf; out = none.out; log = none.log; memory = none.memory })) in record {
      printed = did.printed refl
          ∙ ap (λ (text : List ℕ). changed (with_printed text) (merge_devices before).out) merge_text;
      log = did.logged ∙ appended_none before.log.contents;
      status_is = did.answered;
    }

-- What the headline of `wdep` says of this web.
pub record HelloDepends (before after : Devices) (status : ℕ) : Type 0 where
  pub printed : after.out ≡ changed (with_printed (codes "hello.c: hello.w\n")) before.out
  pub log : after.log.contents ≡ before.log.contents
  pub status_is : status ≡ 0

-- What its acts leave.
record RuleOnly (acts : List Act) : Type 0 where
  within : ActsKeepLimits acts
  none : written_files acts ≡ []
  printed : printed_bytes acts ≡ codes "hello.c: hello.w\n"
  logged : logged_items acts ≡ []
  answered : acts_status acts ≡ 0

rule_only : RuleOnly (depend_acts All web_course)
unfolding digits is_utf8 chars encode
rule_only = record { within = search (rules, few_lines); none = refl; printed = refl; logged = refl; answered = refl }

pub hello_depends : (texts : List ℕ → Option (List ℕ)) (before after : Devices) (status : ℕ)
    → IsSome before.shelf.blamed → texts ≡ hello_contents → NothingFailed before after
    → DependsFreely (world_of texts None) (targets_by hello_words) (options_by hello_words) before after status
    → HelloDepends before after status
hello_depends texts before after status some alone none run =
    let run_there = subst (λ (texts : List ℕ → Option (List ℕ)). DependsFreely (world_of texts None)
    All args before after status) alone run in
    let did = run_there some web_course web_comes (free rule_only.within none) in record {
      printed = did.printed rule_only.none
          ∙ ap (λ (text : List ℕ). changed (with_printed text) before.out) rule_only.printed;
      log = did.logged
          ∙ ap (λ (items : List LogItem). appended (flat_map line items) before.log.contents) rule_only.logged
          ∙ appended_none before.log.contents;
      status_is = did.answered ∙ rule_only.answered;
    }
