use Rattle.cweb_tools.proofs.Common.{ap, arith, option_copied}
use Rattle.cweb_files.specs.Shelves.{ShelfModel}
use Rattle.cweb_files.specs.Sinks.{SinkModel}
use Rattle.cweb_tools.specs.DeviceModels.{failed_reads}
use Rattle.cweb_system.specs.Bins.{bins_model, new_shelf}
use Rattle.cweb_system.specs.inner.FolderCalls.{shelf_model}
use Rattle.cweb_tools.proofs.TanglePromisesProved.{options_in, promised}
use Rattle.cweb_tools.proofs.InFolder.{left_in_folder, tangles_in, world_of_shelf}
use Rattle.cweb_tools.proofs.in_folder.tangle_in_folder.Goals as goal

pub begin_tangle-requires : goal.begin_tangle-requires
begin_tangle-requires g c =
    (omega arith, (omega (arith, ap (λ (m : ShelfModel _). m.failed) c.new-shelf.ensures.model), omega arith))

pub tangle_web-status-requires-clause-counts : goal.tangle_web-status-requires-clause-counts
tangle_web-status-requires-clause-counts g c = record {
  out = omega (arith, ap (λ (bins : SinkModel). bins.failed) c.into_bins-bins.ensures.empty);
  log = omega (arith, c.in-Ok.ensures.calm, c.requires.count);
}

pub returns-in-Ok-clause-promises : goal.returns-in-Ok-clause-promises
returns-in-Ok-clause-promises g c =
    let bins : SinkModel = bins_model g.F.FileSystem c.into_bins-bins.result in
    tangles_in g.F.FileSystem c.args.fs (option_copied c.args.inputs) (options_in c.args.words.now)
    c.new-shelf.result c.begin_tangle.new.shelf c.into_bins-bins.result
    (bins_model g.F.FileSystem c.tangle_web-status.new.bins) (g.L.Sink.model c.args.log.now)
    (g.L.Sink.model c.tangle_web-status.new.log) c.tangle_web-status.result c.new-shelf.ensures.model
    c.into_bins-bins.ensures.empty (promised _ _ (c.in-Ok.ensures.begins bins _ _
    (rw (c.of.ensures.names, c.of.ensures.faults, c.of.ensures.scanned)
    at (c.tangle_web-status.ensures (failed_reads (shelf_model g.F.FileSystem c.begin_tangle.new.shelf))))))

pub returns-in-Ok-clause-files : goal.returns-in-Ok-clause-files
returns-in-Ok-clause-files g c = left_in_folder g.F.FileSystem c.args.fs c.tangle_web-status.new.bins
    (world_of_shelf (new_shelf g.F.FileSystem c.args.fs) (option_copied c.args.inputs)) (options_in c.args.words.now)
    (g.L.Sink.model c.args.log.now) (g.L.Sink.model c.tangle_web-status.new.log) c.tangle_web-status.result
    (returns-in-Ok-clause-promises g c)

pub returns-in-Err-clause-promises : goal.returns-in-Err-clause-promises
returns-in-Err-clause-promises g c =
    let bins : SinkModel = bins_model g.F.FileSystem c.into_bins.result in
    tangles_in g.F.FileSystem c.args.fs (option_copied c.args.inputs) (options_in c.args.words.now)
    c.new-shelf.result c.begin_tangle.new.shelf c.into_bins.result bins (g.L.Sink.model c.args.log.now)
    (g.L.Sink.model c.begin_tangle.new.log) c.in-Err.status c.new-shelf.ensures.model c.into_bins.ensures.empty
    (promised _ _ (c.in-Err.ensures.ends bins))

pub returns-in-Err-clause-files : goal.returns-in-Err-clause-files
returns-in-Err-clause-files g c = left_in_folder g.F.FileSystem c.args.fs c.into_bins.result
    (world_of_shelf (new_shelf g.F.FileSystem c.args.fs) (option_copied c.args.inputs)) (options_in c.args.words.now)
    (g.L.Sink.model c.args.log.now) (g.L.Sink.model c.begin_tangle.new.log) c.in-Err.status
    (returns-in-Err-clause-promises g c)
