use Rattle.cweb_store.proofs.Common.{Some, ap, append-nil, arith, common_steps, drop_all, slice_get, subst, sym, ◌∙◌}
use Rattle.std.proofs.Common.{rules}
use Rattle.std.proofs.lemmas.Option.{slice_get-get_or}
use Rattle.cweb_store.proofs.NumberLemmas.{numbered-next}
use Rattle.cweb_store.specs.inner.Known.{IsOccurrenceTable}
use Rattle.cweb_store.proofs.PositionLemmas.{none-recorded}
use Rattle.cweb_store.proofs.occurrences.Occurrences.numbered.Goals as goal

pub loop-occurrence-init : goal.loop-occurrence-init
loop-occurrence-init c = record {
  numbered = search rules;
  positions = λ number at there. absurd (none-recorded c.len.result number at
      (sym (ap (λ ps. slice_get ps number) (c.in_ok-positions.ensures.items_if_clones_equal (λ y same. search rules)))
      ∙ there));
}

pub loop-occurrence-preserved : goal.loop-occurrence-preserved
loop-occurrence-preserved c = record {
  numbered = λ strings table.
      let l = c.loop-occurrence in
      let rs = c.deref-occurrence-items.result.now in
      let i = l.occurrence-index in
      let there = slice_get-get_or rs i c.occurrence-item.result c.loop-occurrence-test.true
      ∙ ap Some (sym c.occurrence-item.is) in
      rw (c.in_ok-push.ensures.items, c.in_ok-number_in.ensures.names)
      (numbered-next strings rs i l.names.keys l.all.items c.occurrence-item.result c.in_ok-number_in.field-0 table
      there (l.invariant.numbered strings table) c.in_ok-number_in.ensures.number);
  positions = c.in_ok-number_in.ensures.positions;
}

pub returns : goal.returns
returns c =
    let s = c.self.inside in
    let rs = c.deref-occurrence-items.result.now in
    let all = c.loop-occurrence.invariant.numbered s.strings
    (subst (IsOccurrenceTable s.strings) (sym c.deref-occurrence-items.ensures.value) c.self.invariant) in
    grind (arith, common_steps, all.rest, c.self.view_is, c.deref-occurrence-items.ensures.value, drop_all, append-nil)
