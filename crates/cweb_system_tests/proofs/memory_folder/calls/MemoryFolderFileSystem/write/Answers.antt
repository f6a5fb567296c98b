use Rattle.std.proofs.Common.{◌<◌, ◌∷◌, ◌++◌, [], ap, refl, sym, subst, ℕ, List, take, arith, get_or, length}
use Rattle.cweb_system_tests.specs.declared.memory_folder.log.Change.TheVariants.{Append}
use Rattle.cweb_system.specs.Tree.{Tree, Appends}
use Rattle.cweb_system_tests.specs.inner.Layout.{place_in}
use Rattle.cweb_system_tests.specs.inner.Log.{tree_of}
use Rattle.cweb_system_tests.specs.inner.Memory.{memory_tree}
use Rattle.cweb_system_tests.proofs.Changes.{appends}
use Rattle.cweb_system_tests.proofs.Scans.{first_byte}
use Rattle.cweb_system_tests.proofs.memory_folder.calls.MemoryFolderFileSystem.write.Goals as goal

pub returns : goal.returns
returns c = record {
  changes = record {
    ok = λ _.
        let folder = c.args.self.now in
        let key = c.args.file.now.key in
        let byte = get_or c.args.piece.now 0 0 in
        subst (λ (t : Tree). Appends key (take 1 c.args.piece.now) (memory_tree folder) t) (sym c.in_ok-make.ensures.ok)
        (subst (λ (l : List ℕ). Appends key l (memory_tree folder) (tree_of folder.layout (folder.log.items
        ++ Append key byte ∷ []))) (sym (first_byte c.args.piece.now some))
        (appends folder.layout folder.log.items key byte));
    err = λ _. tt;
    place = λ _. ap place_in c.in_ok-make.ensures.layout;
    step = λ _. c.in_ok-make.ensures.step;
    failed = λ _. c.in_ok-make.ensures.failed;
  };
  within = omega (arith, some);
  some = λ _. omega arith;
  key = refl;
}
  where
    some : 0 < length c.args.piece.now
    some = grind (arith, c.is_empty.ensures, c.if-is_empty.false)
