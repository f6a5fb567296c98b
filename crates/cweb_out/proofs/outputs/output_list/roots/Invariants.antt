use Rattle.cweb_out.proofs.Common.{◌≡◌, ◌∷◌, take, Some, None, map, All, filter, has_part, IsRoot}
use Rattle.cweb_store.specs.Names as spec
use Rattle.cweb_out.proofs.outputs.output_list.roots.Given as goal

abbrev pub invariant-files : goal.invariant-files
invariant-files l = record {
  roots : l.roots.items ≡ None ∷ map Some (filter (has_part (spec.resolutions l.store.occurrences) l.store.parts)
      (take l.name-index (spec.files l.store.occurrences)));
  within : All (IsRoot l.store) l.roots.items;
}
