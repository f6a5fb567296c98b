use Rattle.cweb_store.proofs.Common.{◌≡◌, ◌++◌, drop, if◌then◌else◌, []}
use Rattle.std.specs.Prelude.{codes}
use Rattle.cweb_store.specs.Names.{squeezed, squeezed_after}
use Rattle.cweb_store.proofs.Squeezing.{is_some}
use Rattle.cweb_store.proofs.spelling.squeezed.Given as goal

abbrev pub invariant-loop-byte : goal.invariant-loop-byte
invariant-loop-byte l = squeezed l.text
    ≡ l.name.items ++ squeezed_after (is_some l.name.items) (if l.gap then codes " " else []) (drop l.byte-index l.text)
