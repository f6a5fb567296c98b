use Rattle.std.proofs.Common.{◌∙◌, ap, sym, arith, length, take, [], List, ℕ}
use Rattle.std.proofs.lemmas.List.{length-take}
use Rattle.std.specs.List.{slice_get}
use Rattle.cweb_system_tests.specs.inner.Log.{bytes_by}
use Rattle.cweb_system_tests.proofs.Scans.{bytes_next, bytes_short, some_within}
use Rattle.cweb_system_tests.proofs.memory_folder.MemoryFolder.byte_at.Goals as goal

pub sought_after-sought-requires : goal.sought_after-sought-requires
sought_after-sought-requires c =
    let items = c.deref-change-items.result.now in
    let short = bytes_short (take c.loop-change.change-index items) c.args.key [] in
    omega (
      arith,
      short,
      c.loop-change.invariant.size,
      length-take c.loop-change.change-index items,
      c.loop-change-test.true,
      c.deref-change-items.ensures.len,
    )

pub loop-change-preserved : goal.loop-change-preserved
loop-change-preserved c =
    let next = bytes_next c.deref-change-items.result.now c.loop-change.change-index c.change-item.result c.args.key
    c.loop-change-test.true c.change-item.is in
    let before = bytes_by (take c.loop-change.change-index c.deref-change-items.result.now) c.args.key [] in
    record {
      size = c.sought_after-sought.ensures.size before c.loop-change.invariant.size
          ∙ ap (λ (b : List ℕ). length b) (sym next);
      byte = c.sought_after-sought.ensures.byte before c.loop-change.invariant.size c.loop-change.invariant.byte
          ∙ ap (λ (b : List ℕ). slice_get b c.args.position) (sym next);
    }

pub returns-clause-within : goal.returns-clause-within
returns-clause-within c =
    let items = c.deref-change-items.result.now in
    let bytes = bytes_by (take c.loop-change.change-index items) c.args.key [] in
    let short = bytes_short (take c.loop-change.change-index items) c.args.key [] in
    some_within c.loop-change.sought.byte bytes c.args.position c.loop-change.invariant.byte
    (omega (arith, short, length-take c.loop-change.change-index items, c.deref-change-items.ensures.len))
