use Rattle.cweb_tools.proofs.Common.{ap, arith, refl, ◌∙◌, Err, World, CanCome, contents_of, failed_reads, option_copied, options_of, script, shown_by, tangle_course, tangle_later, world_of}
use Rattle.cweb_tools.proofs.TanglePromisesProved.{options_in, same_stop}
use Rattle.cweb_tools.proofs.Doing.{log_counted}
use Rattle.cweb_tools.proofs.RunEnds.{banner_ends, can_run, named_ends, script_judges, words_end}
use Rattle.cweb_tools.proofs.tangle.begin_tangle.Goals as goal

pub returns-in-Err-clause-ends : goal.returns-in-Err-clause-ends
returns-in-Err-clause-ends g c =
    let world : World = world_of (contents_of (g.S.Shelf.model c.args.shelf.now)).texts (option_copied c.args.inputs) in
    let args = options_in c.args.words.now in
    λ out. words_end _ (script (shown_by args)) CanCome (tangle_course world) (can_run world) refl args
    (script_judges world args) c.in-Err.stop (failed_reads (g.S.Shelf.model c.args.shelf.now)) out _
    c.in-Err.ensures.stops (λ is. c.in-Err.ensures.usage.0 (ap Err is))
    (λ none. same_stop _ _ _ refl (c.in-Err.ensures.usage.1 none)) c.log_stop.ensures.logs c.log_stop.ensures.status

pub returns-in-Err-say-clause-ends : goal.returns-in-Err-say-clause-ends
returns-in-Err-say-clause-ends g c =
    let world : World = world_of (contents_of (g.S.Shelf.model c.args.shelf.now)).texts (option_copied c.args.inputs) in
    rw c.in-Ok.ensures.ok (λ out. banner_ends world (options_of c.in-Ok.options)
    (failed_reads (g.S.Shelf.model c.args.shelf.now)) out c.in-Err-say.ensures)

pub scan_web-requires : goal.scan_web-requires
scan_web-requires g c = omega (arith, log_counted c.in_default.ensures, c.requires.log_count)

pub returns-in-Ok-scan_web-clause-begins : goal.returns-in-Ok-scan_web-clause-begins
returns-in-Ok-scan_web-clause-begins g c =
    let world : World = world_of (contents_of (g.S.Shelf.model c.args.shelf.now)).texts (option_copied c.args.inputs) in
    rw c.in-Ok.ensures.ok (λ out after status ends. named_ends world (options_of c.in-Ok.options)
    (failed_reads (g.S.Shelf.model c.args.shelf.now)) out after status c.in_default.ensures
    (c.in-Ok-scan_web.ensures.scans (tangle_later (options_of c.in-Ok.options).shown) out after status
    (rw c.in-Ok-scan_web.ensures.silent at ends)))

pub returns-in-Ok-scan_web-clause-calm : goal.returns-in-Ok-scan_web-clause-calm
returns-in-Ok-scan_web-clause-calm g c =
    ap (λ log. (g.L.Sink.model log).failed) c.in-Ok-scan_web.ensures.silent ∙ log_counted c.in_default.ensures

pub returns-in-Err-scan_web-clause-ends : goal.returns-in-Err-scan_web-clause-ends
returns-in-Err-scan_web-clause-ends g c =
    let world : World = world_of (contents_of (g.S.Shelf.model c.args.shelf.now)).texts (option_copied c.args.inputs) in
    rw c.in-Ok.ensures.ok (λ out. named_ends world (options_of c.in-Ok.options)
    (failed_reads (g.S.Shelf.model c.args.shelf.now)) out _ _ c.in_default.ensures
    (c.in-Err-scan_web.ensures.stops (tangle_later (options_of c.in-Ok.options).shown) out))
