use Rattle.cweb_store.proofs.Common.{ap, length, length-map, arith}
use Rattle.cweb_store.specs.inner.Known.{occurrence_at}
use Rattle.cweb_store.proofs.table.NameTable.len.Goals as goal

pub returns : goal.returns
returns c =
    let s = c.self.inside in
    omega (arith, c.len.ensures, ap length c.self.view_is, length-map s.records.items (occurrence_at s.strings.strings))
