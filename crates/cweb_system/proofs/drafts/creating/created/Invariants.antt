use Rattle.std.specs.Prelude.{◌≡◌, ◌⊎◌, None, IsTrue}
use Rattle.cweb_system.specs.Steps.{OnDisk}
use Rattle.cweb_system.specs.Tree.{at}
use Rattle.cweb_system.specs.inner.Drafts.{LeavesFiles}
use Rattle.cweb_system.proofs.drafts.creating.created.Given as goal

-- After the first turn the path is free, so the second one creates the draft, if no call fails.
abbrev pub invariant-loop : goal.invariant-loop
invariant-loop g l = record {
  leaves : LeavesFiles g.F.FileSystem.disk l.files l.initial.fs l.fs;
  turn : OnDisk g.F.FileSystem.disk (λ see. IsTrue (see l.fs).failed
      ⊎ ((l.counter ≡ 0) × ((see l.fs).tree ≡ (see l.initial.fs).tree))
      ⊎ ((l.counter ≡ 1) × (at (see l.fs).tree l.path.text.now ≡ None)));
}
