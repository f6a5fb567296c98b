use Rattle.cweb_tools.proofs.Common.{ℕ, List, Bor, map, option_copied}
use Rattle.cweb_tools.specs.Depend.{DependPromises, DependsFreely, targets_by}
use Rattle.cweb_tools.proofs.TanglePromisesProved.{options_in}
use Rattle.cweb_tools.proofs.InFolder.{runs_in}
use Rattle.cweb_tools.proofs.in_folder.depend_in_folder.Goals as goal

pub returns : goal.returns
returns g c =
    let targets = targets_by (map (λ (word : Bor (List ℕ)). word.now) c.args.words.now) in
    let args = options_in c.args.words.now in
    record {
      promises = runs_in g.F.FileSystem c.args.fs
          (λ world before after status. DependPromises world targets args before after status
          × DependsFreely world targets args before after status)
          (option_copied c.args.inputs) c.new-shelf.result c.run_wdep.new.shelf
          (g.W.Sink.model c.args.out.now)
          (g.W.Sink.model c.run_wdep.new.out) (g.L.Sink.model c.args.log.now)
          (g.L.Sink.model c.run_wdep.new.log) c.run_wdep.result c.new-shelf.ensures.model
          (c.run_wdep.ensures.promises, c.run_wdep.ensures.freely);
    }
