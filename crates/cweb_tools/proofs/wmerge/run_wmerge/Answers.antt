use Rattle.cweb_tools.proofs.Common.{ℕ, List, Bor, map, web_names_by, MergeCanCome, merge_acts, merge_course, ap, Err, refl, Some, World, WebNames, IsMergeCourse, contents_of, failed_reads, world_of, option_copied}
use Rattle.cweb_tools.specs.inner.Variables.{merge_word_names}
use Rattle.cweb_tools.proofs.TanglePromisesProved.{merge_comes, same_stop, promised_by, ran_freely}
use Rattle.cweb_tools.proofs.MergeExits.{begins_acts, can_run}
use Rattle.cweb_tools.proofs.MergeStops.{out_of}
use Rattle.cweb_tools.proofs.RunEnds.{words_end}
use Rattle.cweb_tools.proofs.MergePromisesProved.{one_course}
use Rattle.cweb_tools.proofs.wmerge.run_wmerge.Goals as goal

pub returns-in-Err-clause-promises : goal.returns-in-Err-clause-promises
returns-in-Err-clause-promises g c =
    let world : World = world_of (contents_of (g.S.Shelf.model c.args.shelf.now)).texts (option_copied c.args.inputs) in
    let args = web_names_by (map (λ (word : Bor (List ℕ)). word.now) c.args.words.now) in
    let shelf = failed_reads (g.S.Shelf.model c.args.shelf.now) in
    promised_by (merge_comes world args) (words_end _ merge_acts MergeCanCome (merge_course world) (can_run world) refl
    args (λ one is. begins_acts one _ (can_run world (Some one))) c.in-Err.stop shelf
    (out_of shelf (g.W.Sink.model c.args.out.now)) _ c.in-Err.ensures.stops
    (λ is. c.in-Err.ensures.usage.0 (ap Err is))
    (λ none. same_stop _ _ _ refl (c.in-Err.ensures.usage.1 none)) c.log_stop.ensures.logs c.log_stop.ensures.status)

pub returns-in-Err-clause-freely : goal.returns-in-Err-clause-freely
returns-in-Err-clause-freely g c = ran_freely merge_acts
    (one_course (world_of (contents_of (g.S.Shelf.model c.args.shelf.now)).texts (option_copied c.args.inputs))
    (web_names_by (map (λ (word : Bor (List ℕ)). word.now) c.args.words.now))) (returns-in-Err-clause-promises g c)

pub returns-clause-promises : goal.returns-clause-promises
returns-clause-promises g c =
    let world : World = world_of (contents_of (g.S.Shelf.model c.args.shelf.now)).texts (option_copied c.args.inputs) in
    let names : WebNames = merge_word_names c.in-Ok.args in
    rw c.in-Ok.ensures.ok (promised_by {Is = IsMergeCourse world (Some names)} (merge_comes world (Some names))
    c.merge_web.ensures)

pub returns-clause-freely : goal.returns-clause-freely
returns-clause-freely g c = ran_freely merge_acts (one_course
    (world_of (contents_of (g.S.Shelf.model c.args.shelf.now)).texts (option_copied c.args.inputs))
    (web_names_by (map (λ (word : Bor (List ℕ)). word.now) c.args.words.now))) (returns-clause-promises g c)
