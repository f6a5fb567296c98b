use Rattle.std.specs.Prelude.{take}
use Rattle.std.specs.Option.{option_copied}
use Rattle.cweb_system.specs.Steps.{OnDisk}
use Rattle.cweb_system.specs.inner.Written.{IsNewBut}
use Rattle.cweb_system.proofs.written.is_written.Given as goal

abbrev pub invariant-loop-file : goal.invariant-loop-file
invariant-loop-file g l = OnDisk g.F.FileSystem.disk
    (λ _. IsNewBut (option_copied l.but) l.key (take l.file-index l.written))
