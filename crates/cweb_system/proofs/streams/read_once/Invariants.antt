use Rattle.std.specs.Io.KnownBytes.{Keeps}
use Rattle.cweb_system.proofs.streams.read_once.Given as goal

abbrev pub invariant-loop : goal.invariant-loop
invariant-loop g l = Keeps (g.F.Read.remaining l.initial.file) (g.F.Read.remaining l.file)
