use Rattle.std.proofs.Common.{ap, sym, subst}
use Rattle.cweb_system.specs.Tree.{Tree, Creates}
use Rattle.cweb_system_tests.specs.inner.Layout.{place_in}
use Rattle.cweb_system_tests.specs.inner.Memory.{memory_tree}
use Rattle.cweb_system_tests.proofs.Changes.{creates}
use Rattle.cweb_system_tests.proofs.Scans.{match_some}
use Rattle.cweb_system_tests.proofs.memory_folder.calls.MemoryFolderFileSystem.create.Goals as goal

pub returns : goal.returns
returns c = record {
  ok = λ some. subst (λ (t : Tree). Creates c.args.path.now c.in-Ok-Some.new.key (memory_tree c.args.self.now) t)
      (sym c.in_ok-make.ensures.ok)
      (creates c.args.self.now.layout c.args.self.now.log.items c.args.path.now c.in-Ok-Some.new c.unwrap_or-mode.result
      (match_some c.in-Ok-Some.field-0 c.in-Ok-Some.new _ _ c.in-Ok-Some.field-0-is c.in-Ok-Some.ensures));
  err = λ some. tt;
  place = λ some. ap place_in c.in_ok-make.ensures.layout;
  step = λ some. c.in_ok-make.ensures.step;
  failed = λ some. c.in_ok-make.ensures.failed;
}
