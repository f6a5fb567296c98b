use Rattle.cweb_store.proofs.Common.{ℕ, drop, AreRecords}
use Rattle.cweb_store.proofs.tokens.records.first_place.Given as goal

abbrev pub invariant-loop-item : goal.invariant-loop-item
invariant-loop-item l = (n number : ℕ) → AreRecords n number l.records l.all
    → AreRecords n number (drop l.item-index l.records) l.all
