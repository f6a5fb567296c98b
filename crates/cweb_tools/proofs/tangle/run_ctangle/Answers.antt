use Rattle.cweb_tools.proofs.Common.{arith, option_copied, contents_of, failed_reads, world_of}
use Rattle.cweb_tools.proofs.TanglePromisesProved.{options_in, promised, tangled_freely}
use Rattle.cweb_tools.proofs.tangle.run_ctangle.Goals as goal

pub tangle_web-requires-clause-counts : goal.tangle_web-requires-clause-counts
tangle_web-requires-clause-counts g c = record {
  out = c.requires.counts.out;
  log = omega (arith, c.in-Ok.ensures.calm, c.requires.counts.log);
}

pub returns-in-Ok-clause-promises : goal.returns-in-Ok-clause-promises
returns-in-Ok-clause-promises g c = promised _ _ (c.in-Ok.ensures.begins (g.B.Sink.model c.args.bins.now) _ _
    (rw (c.of.ensures.names, c.of.ensures.faults, c.of.ensures.scanned)
    at (c.tangle_web.ensures (failed_reads (g.S.Shelf.model c.begin_tangle.new.shelf)))))

pub returns-in-Ok-clause-freely : goal.returns-in-Ok-clause-freely
returns-in-Ok-clause-freely g c = tangled_freely (world_of (contents_of (g.S.Shelf.model c.args.shelf.now)).texts
    (option_copied c.args.inputs)) (options_in c.args.words.now) (returns-in-Ok-clause-promises g c)

pub returns-in-Err-clause-promises : goal.returns-in-Err-clause-promises
returns-in-Err-clause-promises g c = promised _ _ (c.in-Err.ensures.ends (g.B.Sink.model c.args.bins.now))

pub returns-in-Err-clause-freely : goal.returns-in-Err-clause-freely
returns-in-Err-clause-freely g c = tangled_freely (world_of (contents_of (g.S.Shelf.model c.args.shelf.now)).texts
    (option_copied c.args.inputs)) (options_in c.args.words.now) (returns-in-Err-clause-promises g c)
