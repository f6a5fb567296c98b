use Rattle.cweb_store.proofs.Common.{◌≡◌, ◌∙◌, sym, ap, subst, arith, get_or_from_slice_get}
use Rattle.cweb_store.specs.inner.Known.{by_found, resolve}
use Rattle.cweb_store.proofs.NameLemmas.{prefix_at}
use Rattle.cweb_store.proofs.StringListLemmas.{get-string}
use Rattle.cweb_store.proofs.OccurrenceTableLemmas.{resolved-get, resolved-next, resolved-stays}
use Rattle.cweb_store.proofs.resolution.resolve_all.Goals as goal
use Rattle.cweb_store.proofs.resolution.resolve_all.Goals.{then-is_open, else-is_open}

pub loop-i-preserved : goal.loop-i-preserved
loop-i-preserved c =
    let l = c.loop-i in
    let names = c.args.names.now in
    let old = c.args.all.now.items in
    let e = prefix_at old l.i (omega (arith, c.loop-i-test.true, c.len-i-end.ensures, c.args.all.now.ok.0)) in
    let t = prefix_at names.strings l.i
    (omega (arith, c.requires.count, c.loop-i-test.true, c.len-i-end.ensures, c.args.all.now.ok.0)) in
    let there = resolved-get names.names names.strings old l.i l.all.items e.item l.invariant e.there in
    let is = c.index.ensures ∙ get_or_from_slice_get l.all.items l.i _ _ there in
    elim c.if-is_open.branch [
      | then-is_open w ↦
          let never = sym (c.is_open.ensures.never w.if-is_open.true) ∙ is in
          rw w.all-is
          (resolved-next names.names names.strings old l.i l.all.items t.item e.item w.resolution.result l.invariant t.there
          e.there (w.resolution.ensures ∙ ap by_found w.find.ensures
          ∙ (λ i. resolve names.names (get-string names.strings l.i t.item t.there i) (never i))))
      | else-is_open w ↦
          rw w.all-is
          (resolved-stays names.names names.strings old l.i l.all.items t.item e.item l.invariant t.there e.there
          (subst (λ r. resolve names.names t.item r ≡ r) is (c.is_open.ensures.stays w.if-is_open.false names.names t.item)))
    ]
