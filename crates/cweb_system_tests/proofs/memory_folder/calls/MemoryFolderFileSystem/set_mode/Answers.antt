use Rattle.std.proofs.Common.{◌≡◌, ◌∷◌, ◌++◌, [], ap, sym, subst}
use Rattle.cweb_system_tests.specs.declared.memory_folder.log.Change.TheVariants.{SetMode}
use Rattle.cweb_system.specs.Tree.{Tree, SetsMode}
use Rattle.cweb_system_tests.specs.inner.Layout.{place_in}
use Rattle.cweb_system_tests.specs.inner.Log.{tree_of}
use Rattle.cweb_system_tests.specs.inner.Memory.{handle_key, memory_tree}
use Rattle.cweb_system_tests.proofs.Changes.{sets_mode}
use Rattle.cweb_system_tests.proofs.Scans.{on_ok}
use Rattle.cweb_system_tests.proofs.memory_folder.calls.MemoryFolderFileSystem.set_mode.Goals as goal

pub returns : goal.returns
returns c = record {
  ok = λ some. let folder = c.args.self.now in let key = c.args.file.now.key in on_ok c.make.result _ _
      (λ (e : memory_tree c.make.new.self ≡ tree_of folder.layout (folder.log.items ++ SetMode key c.args.mode ∷ [])).
      subst (λ (t : Tree). SetsMode (handle_key c.args.file.now) c.args.mode (memory_tree folder) t) (sym e)
      (sets_mode folder.layout folder.log.items key c.args.mode)) c.make.ensures.ok;
  err = λ some. c.make.ensures.err;
  place = λ some. ap place_in c.make.ensures.layout;
  step = λ some. c.make.ensures.step;
  failed = λ some. c.make.ensures.failed;
}
