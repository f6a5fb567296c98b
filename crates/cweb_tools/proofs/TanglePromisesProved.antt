-- The way that a run goes exists, and there is no other. A run keeps its promises, by how it ends.
use Rattle.cweb_tools.proofs.Common.{◌≡◌, sym, ◌∙◌, Option, World, OptionsModel, Devices, FollowsActs, List, Act, TangleCourse, CanCome, tangle_course, IsTangleCourse, subst, RanFreely, DoesActs, DoesActsFreely, ℕ, Bor, map, options_by, Some, None, Result, Err, Stop, refl, ap, Found, WebNames, Course, change_name, merging, IsMergeCourse, found_course, merge_course, merge-run_steps, contents_found, tangled, started, arith}
use Rattle.cweb_tools.proofs.Endings.{does_all, runs_freely}
use Rattle.cweb_lines.proofs.EnoughSteps.{merge_yields}
use Rattle.cweb_tools.specs.MergeActs.{IsFoundCourse, unread, not_there, change_not_there}

found_comes : (world : World) (names : WebNames) (web : Option Found) (change : Option (Option Found))
    → IsFoundCourse world names web change (found_course world names web change)
found_comes world names None change = refl
found_comes world names (Some web) None = refl
found_comes world names (Some web) (Some change) = (refl, merge_yields world (started web.1 (contents_found change)))

found_only : (world : World) (names : WebNames) (web : Option Found) (change : Option (Option Found)) (course : Course)
    → IsFoundCourse world names web change course → course ≡ found_course world names web change
found_only world names None change course is = is
found_only world names (Some web) None course is = is
found_only world names (Some web) (Some change) (merging files events) is = grind (arith, merge-run_steps)
found_only world names (Some web) (Some change) unread is = absurd is
found_only world names (Some web) (Some change) (not_there name) is = absurd is
found_only world names (Some web) (Some change) (change_not_there name) is = absurd is

pub merge_comes : (world : World) (args : Option WebNames) → IsMergeCourse world args (merge_course world args)
merge_comes world None = refl
merge_comes world (Some names) = grind (arith, found_comes)

pub merge_only : (world : World) (args : Option WebNames) (course : Course) → IsMergeCourse world args course
    → course ≡ merge_course world args
merge_only world None course is = is
merge_only world (Some names) course is = grind (arith, found_only)

pub tangle_comes : (world : World) (args : Option OptionsModel)
    → IsTangleCourse world args (tangle_course world args)
tangle_comes world None = refl
tangle_comes world (Some args) =
    (merge_course world (Some args.names.merge), merge_comes world (Some args.names.merge), refl)

pub tangle_only : (world : World) (args : Option OptionsModel) (course : TangleCourse)
    → IsTangleCourse world args course → course ≡ tangle_course world args
tangle_only world None course is = is
tangle_only world (Some args) course is =
    is.2 ∙ ap (tangled args.names.main) (merge_only world (Some args.names.merge) is.0 is.1)

-- The options of these words.
abbrev pub options_in : List (Bor (List ℕ)) → Option OptionsModel
options_in words = options_by (map (λ (word : Bor (List ℕ)). word.now) words)

-- A call fails with one stop.
pub same_stop : {A : Type 0} (r : Result A Stop) (one other : Stop) → r ≡ Err one → r ≡ Err other → one ≡ other
same_stop r one other is too = cc

-- The courses of a search that found no web, or no change file.
pub no_web : (world : World) (names : WebNames) (found : Option Found) (changes : Option (Option Found))
    → found ≡ None → not_there names.web ≡ found_course world names found changes
no_web world names None changes is = refl
no_web world names (Some web) changes is = absurd (cc)

pub no_change : (world : World) (names : WebNames) (found : Option Found) (changes : Option (Option Found))
    → (web : Found) × (found ≡ Some web) → changes ≡ None
    → change_not_there (change_name names.change) ≡ found_course world names found changes
no_change world names None changes web is = grind arith
no_change world names (Some found) None web is = refl
no_change world names (Some found) (Some change) web is = absurd (cc)

-- A run on this course keeps its promises.
pub promised_by : {C : Type 0} {acts : C → List Act} {CanBe Is : C → Type 0} {course : C} {before after : Devices}
    {status : ℕ} → Is course → FollowsActs acts CanBe (λ taken. taken ≡ course) before after status
    → FollowsActs acts CanBe Is before after status
promised_by {Is = Is} comes follows = record {
  course = follows.course;
  can = follows.can;
  is = λ some. subst Is (sym (follows.is some)) comes;
  ends = follows.ends;
}

pub promised : (world : World) (args : Option OptionsModel) {before after : Devices} {status : ℕ}
    {acts : TangleCourse → List Act}
    → FollowsActs acts (CanCome args) (λ taken. taken ≡ tangle_course world args) before after status
    → FollowsActs acts (CanCome args) (IsTangleCourse world args) before after status
promised world args follows = promised_by {Is = IsTangleCourse world args} (tangle_comes world args) follows

-- The effect of a run that nothing stopped.
done_freely : {C : Type 0} (acts : C → List Act) {CanBe Is : C → Type 0} (before after : Devices) {status : ℕ}
    (run : FollowsActs acts CanBe Is before after status) → RanFreely (acts run.course) before after
    → DoesActs (acts run.course) before after status
done_freely acts before after run free = let done = runs_freely run.ends free in does_all done.0 done.1

-- If there is only one course, that is its own.
pub ran_freely : {C : Type 0} (acts : C → List Act) {CanBe Is : C → Type 0} {before after : Devices} {status : ℕ}
    → ((one other : C) → Is one → Is other → one ≡ other)
    → FollowsActs acts CanBe Is before after status → DoesActsFreely acts Is before after status
ran_freely {C} acts {before = before} {after = after} {status = status} only run tell course is free =
    let same : run.course ≡ course = only run.course course (run.is tell) is in
    subst (λ (c : C). DoesActs (acts c) before after status) same
    (done_freely acts before after run (subst (λ (c : C). RanFreely (acts c) before after) (sym same) free))

pub tangled_freely : (world : World) (args : Option OptionsModel) {acts : TangleCourse → List Act}
    {before after : Devices} {status : ℕ}
    → FollowsActs acts (CanCome args) (IsTangleCourse world args) before after status
    → DoesActsFreely acts (IsTangleCourse world args) before after status
tangled_freely world args {acts} run = ran_freely acts
    (λ one other is too. tangle_only world args one is ∙ sym (tangle_only world args other too)) run
