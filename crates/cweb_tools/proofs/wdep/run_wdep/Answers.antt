use Rattle.cweb_tools.proofs.Common.{ℕ, List, Bor, map, ap, refl, Err, option_copied, World, OptionsModel, Some, options_of, contents_of, failed_reads, world_of, depend_acts, depend_web_acts, CanCome, tangle_course}
use Rattle.cweb_tools.specs.declared.rule_targets.Targets.{Targets}
use Rattle.cweb_tools.specs.Depend.{targets_by}
use Rattle.cweb_tools.proofs.TanglePromisesProved.{options_in, same_stop, promised, tangled_freely}
use Rattle.cweb_tools.proofs.RunEnds.{can_run, depend_ends, depend_judges, words_end}
use Rattle.cweb_tools.proofs.wdep.run_wdep.Goals as goal

abbrev targets_of : List (Bor (List ℕ)) → Targets
targets_of words = targets_by (map (λ (word : Bor (List ℕ)). word.now) words)

pub returns-in-Err-clause-promises : goal.returns-in-Err-clause-promises
returns-in-Err-clause-promises g c =
    let world : World = world_of (contents_of (g.S.Shelf.model c.args.shelf.now)).texts (option_copied c.args.inputs) in
    let targets = targets_of c.args.words.now in
    promised world (options_in c.args.words.now) (words_end _ (depend_acts targets) CanCome (tangle_course world)
    (can_run world) refl (options_in c.args.words.now) (λ one is. depend_judges targets world one) c.in-Err.stop
    (failed_reads (g.S.Shelf.model c.args.shelf.now)) (g.W.Sink.model c.args.out.now) _ c.in-Err.ensures.stops
    (λ is. c.in-Err.ensures.usage.0 (ap Err is))
    (λ none. same_stop _ _ _ refl (c.in-Err.ensures.usage.1 none)) c.log_stop.ensures.logs c.log_stop.ensures.status)

pub returns-in-Err-clause-freely : goal.returns-in-Err-clause-freely
returns-in-Err-clause-freely g c = tangled_freely (world_of (contents_of (g.S.Shelf.model c.args.shelf.now)).texts
    (option_copied c.args.inputs))
    (options_in c.args.words.now) (returns-in-Err-clause-promises g c)

pub returns-in-Ok-scan_web-clause-promises : goal.returns-in-Ok-scan_web-clause-promises
returns-in-Ok-scan_web-clause-promises g c =
    let world : World = world_of (contents_of (g.S.Shelf.model c.args.shelf.now)).texts (option_copied c.args.inputs) in
    let args : OptionsModel = options_of c.in-Ok.options in
    rw c.in-Ok.ensures.ok (promised world (Some args)
    (depend_ends _ world args _ _ _ (c.in-Ok-scan_web.ensures.scans (depend_web_acts (targets_of c.args.words.now))
    (g.W.Sink.model c.args.out.now) _ _ (rw (
      c.of-in-Ok-scan_web.ensures,
      c.as_str.ensures.value,
      c.of.ensures.names,
      c.of.ensures.faults,
      c.of.ensures.scanned,
      c.in-Ok-scan_web.ensures.silent,
    )
    at (c.depend_web.ensures (failed_reads (g.S.Shelf.model c.scan_web.new.shelf)))))))

pub returns-in-Ok-scan_web-clause-freely : goal.returns-in-Ok-scan_web-clause-freely
returns-in-Ok-scan_web-clause-freely g c = tangled_freely
    (world_of (contents_of (g.S.Shelf.model c.args.shelf.now)).texts (option_copied c.args.inputs))
    (options_in c.args.words.now) (returns-in-Ok-scan_web-clause-promises g c)

pub returns-clause-promises : goal.returns-clause-promises
returns-clause-promises g c =
    let world : World = world_of (contents_of (g.S.Shelf.model c.args.shelf.now)).texts (option_copied c.args.inputs) in
    let args : OptionsModel = options_of c.in-Ok.options in
    rw c.in-Ok.ensures.ok (promised world (Some args)
    (depend_ends _ world args _ _ _ (c.in-Err-scan_web.ensures.stops (depend_web_acts (targets_of c.args.words.now))
    (g.W.Sink.model c.args.out.now))))

pub returns-clause-freely : goal.returns-clause-freely
returns-clause-freely g c = tangled_freely (world_of (contents_of (g.S.Shelf.model c.args.shelf.now)).texts
    (option_copied c.args.inputs))
    (options_in c.args.words.now) (returns-clause-promises g c)
