use Rattle.std.proofs.Common.{◌≡◌, ◌∙◌, ◌∷◌, ◌++◌, [], sym, subst}
use Rattle.cweb_system_tests.specs.declared.memory_folder.log.Change.TheVariants.{Put}
use Rattle.cweb_system.specs.Tree.{Tree}
use Rattle.cweb_system_tests.specs.inner.Log.{Puts, tree_of}
use Rattle.cweb_system_tests.specs.inner.Memory.{memory_tree}
use Rattle.cweb_system_tests.proofs.Changes.{puts}
use Rattle.cweb_system_tests.proofs.Scans.{on_ok}
use Rattle.cweb_system_tests.proofs.memory_folder.MemoryFolder.put.Goals as goal

pub returns-clause-ok : goal.returns-clause-ok
returns-clause-ok c = let folder = c.args.self.now in on_ok c.make.result _ _
    (λ (e : memory_tree c.make.new.self ≡ tree_of folder.layout (folder.log.items ++ Put c.in-Ok.at c.args.node ∷ [])).
    subst (λ (t : Tree). Puts c.args.path.now c.args.node (memory_tree folder) t) (sym e)
    (puts folder.layout folder.log.items c.in-Ok.at c.args.path.now c.args.node (c.in-Ok.ensures.ok ∙ c.place.ensures)))
    c.make.ensures.ok
