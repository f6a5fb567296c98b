use Rattle.std.proofs.Common.{◌≡◌, ◌∷◌, ◌++◌, [], ap, sym, subst}
use Rattle.cweb_system_tests.specs.declared.memory_folder.log.Change.TheVariants.{Remove}
use Rattle.cweb_system.specs.Tree.{Tree, Removes}
use Rattle.cweb_system_tests.specs.inner.Layout.{place_in}
use Rattle.cweb_system_tests.specs.inner.Log.{tree_of}
use Rattle.cweb_system_tests.specs.inner.Memory.{memory_tree}
use Rattle.cweb_system_tests.proofs.Changes.{removes}
use Rattle.cweb_system_tests.proofs.Scans.{on_ok}
use Rattle.cweb_system_tests.proofs.memory_folder.calls.MemoryFolderFileSystem.remove.Goals as goal

pub returns-in-Ok : goal.returns-in-Ok
returns-in-Ok c = record {
  ok = λ some. let folder = c.args.self.now in on_ok c.make.result _ _
      (λ (e : memory_tree c.make.new.self ≡ tree_of folder.layout (folder.log.items ++ Remove c.in-Ok.at ∷ [])).
      subst (λ (t : Tree). Removes c.args.path.now (memory_tree folder) t) (sym e)
      (removes folder.layout folder.log.items c.in-Ok.at c.args.path.now c.in-Ok.ensures)) c.make.ensures.ok;
  err = λ some. c.make.ensures.err;
  place = λ some. ap place_in c.make.ensures.layout;
  step = λ some. c.make.ensures.step;
  failed = λ some. c.make.ensures.failed;
}
