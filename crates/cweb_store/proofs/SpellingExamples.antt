-- Worked examples of spellings.
use Rattle.cweb_store.proofs.Common.{◌≡◌, []}
use Rattle.std.specs.Prelude.{codes}
use Rattle.cweb_store.specs.Names.{squeezed}

record Computed : Type 0 where
  white_space_is_single_blanks : squeezed (codes "  Main \t\n loop ") ≡ codes "Main loop"
  a_squeezed_text_stays : squeezed (codes "Main loop") ≡ codes "Main loop"
  white_space_alone : squeezed (codes " \t ") ≡ []

computed : Computed
computed = search
