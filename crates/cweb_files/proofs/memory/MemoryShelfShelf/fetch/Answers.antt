use Rattle.std.proofs.Common.{true, false, sym, ◌∙◌, ap, List, ℕ}
use Rattle.std.specs.Str.{bytes_eq}
use Rattle.cweb_files.proofs.Entries.{finds_more}
use Rattle.cweb_files.proofs.memory.MemoryShelfShelf.fetch.Goals as goal
use Rattle.cweb_files.proofs.memory.MemoryShelfShelf.fetch.Goals.{then-eq, else-eq}

pub loop-i-preserved : goal.loop-i-preserved
loop-i-preserved c =
    let test = c.eq.ensures ∙ ap (λ (s : List ℕ). bytes_eq s c.args.name.now) c.as_str.ensures.value in
    elim c.if-eq.branch [
      | then-eq w ↦ rw w.found-is (record {
        found = finds_more c.deref-entry-items.result.now c.loop-i.i c.entry-item.result c.args.name.now
            c.loop-i.found c.loop-i-test.true c.entry-item.is c.loop-i.invariant.found true (sym w.if-eq.true ∙ test);
        is_open = c.loop-i-test.true;
      })
      | else-eq w ↦ rw w.found-is (record {
        found = finds_more c.deref-entry-items.result.now c.loop-i.i c.entry-item.result c.args.name.now
            c.loop-i.found c.loop-i-test.true c.entry-item.is c.loop-i.invariant.found false (sym w.if-eq.false ∙ test);
        is_open = c.loop-i.invariant.is_open;
      })
    ]
