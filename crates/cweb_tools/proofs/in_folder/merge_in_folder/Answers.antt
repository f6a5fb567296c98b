use Rattle.cweb_tools.proofs.Common.{ℕ, List, Bor, map, option_copied}
use Rattle.cweb_tools.specs.CommandLine.{web_names_by}
use Rattle.cweb_tools.specs.MergeActs.{MergePromises, MergesFreely}
use Rattle.cweb_tools.proofs.InFolder.{runs_in}
use Rattle.cweb_tools.proofs.in_folder.merge_in_folder.Goals as goal

pub returns : goal.returns
returns g c =
    let args = web_names_by (map (λ (word : Bor (List ℕ)). word.now) c.args.words.now) in
    record {
      promises = runs_in g.F.FileSystem c.args.fs
          (λ world before after status. MergePromises world args before after status
          × MergesFreely world args before after status)
          (option_copied c.args.inputs) c.new-shelf.result c.run_wmerge.new.shelf
          (g.W.Sink.model c.args.out.now)
          (g.W.Sink.model c.run_wmerge.new.out) (g.L.Sink.model c.args.log.now)
          (g.L.Sink.model c.run_wmerge.new.log) c.run_wmerge.result c.new-shelf.ensures.model
          (c.run_wmerge.ensures.promises, c.run_wmerge.ensures.freely);
    }
