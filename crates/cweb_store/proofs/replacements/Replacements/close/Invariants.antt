use Rattle.cweb_store.proofs.Common.{◌≡◌, map, take, replacement_bytes, replacement_in}
use Rattle.cweb_store.proofs.replacements.Replacements.close.Given as goal

abbrev pub invariant-loop-replaced : goal.invariant-loop-replaced
invariant-loop-replaced l = record {
  all : l.bytes.items ≡ map (λ r. r.byte) (take l.replaced-index l.replaced-items);
  strings : l.strings ≡ map (λ r. replacement_bytes (replacement_in r)) (take l.replaced-index l.replaced-items);
}
