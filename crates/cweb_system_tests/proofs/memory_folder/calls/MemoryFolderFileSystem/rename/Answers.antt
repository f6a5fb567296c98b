use Rattle.std.proofs.Common.{◌≡◌, ◌∷◌, ◌++◌, [], inr, ap, refl, sym, subst}
use Rattle.cweb_system_tests.specs.declared.memory_folder.log.Change.TheVariants.{Move}
use Rattle.cweb_system.specs.Tree.{Tree, Renames}
use Rattle.cweb_system_tests.specs.inner.Layout.{place_in}
use Rattle.cweb_system_tests.specs.inner.Log.{tree_of}
use Rattle.cweb_system_tests.specs.inner.Memory.{memory_tree}
use Rattle.cweb_system_tests.proofs.Changes.{renames}
use Rattle.cweb_system_tests.proofs.Scans.{match_none, match_some, on_ok}
use Rattle.cweb_system_tests.proofs.memory_folder.calls.MemoryFolderFileSystem.rename.Goals as goal

pub returns-in-Ok-Some : goal.returns-in-Ok-Some
returns-in-Ok-Some c =
    let it = c.in-Ok-Some.it in
    record {
      ok = λ some. let folder = c.args.self.now in on_ok c.make.result _ _
          (λ (e : memory_tree c.make.new.self ≡ tree_of folder.layout
          (folder.log.items ++ Move it.old it.new it.node ∷ [])) key is apart.
          subst (λ (t : Tree). Renames c.args.from.now c.args.to.now (memory_tree folder) t) (sym e)
          (renames folder.layout folder.log.items c.args.from.now c.args.to.now it
          (match_some c.in-Ok-Some.field-0 it _ _ c.in-Ok-Some.field-0-is c.in-Ok-Some.ensures))) c.make.ensures.ok;
      err = λ some. c.make.ensures.err;
      place = λ some. ap place_in c.make.ensures.layout;
      step = λ some. c.make.ensures.step;
      failed = λ some. c.make.ensures.failed;
    }

pub returns-in-Ok-None : goal.returns-in-Ok-None
returns-in-Ok-None c = record {
  ok = λ some key is apart. absurd (apart
      (match_none c.in-Ok-None.field-0 _ _ c.in-Ok-None.field-0-is c.in-Ok-None.ensures key is));
  err = λ some. tt;
  place = λ some. refl;
  step = λ some. inr (refl, refl);
  failed = λ some. refl;
}
