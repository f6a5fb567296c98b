use Rattle.cweb_out.proofs.Common.{arith}
use Rattle.cweb_store.proofs.PartLemmas.{numbers-some}
use Rattle.cweb_store.specs.Parts.{is_unnamed}
use Rattle.cweb_out.proofs.outputs.planning.has_unnamed.Goals as goal

pub returns : goal.returns
returns c =
    grind (
      arith,
      c.next.result,
      c.next.ensures.steps,
      c.is_some.ensures,
      c.unnamed.ensures.numbers,
      numbers-some is_unnamed c.args.store.now.parts,
    )
