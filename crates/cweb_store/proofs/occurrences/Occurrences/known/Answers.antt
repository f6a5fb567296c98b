use Rattle.cweb_store.proofs.Common.{◌∙◌, [], length, ap, arith, common_steps, append-nil, drop_all, get_or_from_slice_get}
use Rattle.cweb_store.proofs.NameLemmas.{prefix_at}
use Rattle.cweb_store.proofs.OccurrenceTableLemmas.{numbered-count, numbered-place, taken-at, taken-next, text-is}
use Rattle.cweb_store.proofs.occurrences.Occurrences.known.Goals as goal

pub take-requires-clause-numbered : goal.take-requires-clause-numbered
take-requires-clause-numbered c =
    let os = c.args.self.now in
    let l = c.loop-i in
    let o = prefix_at os l.i (omega (
      arith,
      c.loop-i-test.true,
      c.len-i-end.ensures,
      c.in_ok-all.all.ok.0,
      ap length c.in_ok-all.ensures,
      numbered-count 0 [] os,
    )) in
    let there = taken-at os l.i l.known l.all.items o.item l.invariant o.there in
    numbered-place l.known.names o.item _ c.index.result.now (text-is os l.i o.item _ l.invariant.strings o.there)
    (c.index.ensures ∙ get_or_from_slice_get l.all.items l.i _ _ there)

pub loop-i-preserved : goal.loop-i-preserved
loop-i-preserved c =
    let os = c.args.self.now in
    let l = c.loop-i in
    let o = prefix_at os l.i (omega (
      arith,
      c.loop-i-test.true,
      c.len-i-end.ensures,
      c.in_ok-all.all.ok.0,
      ap length c.in_ok-all.ensures,
      numbered-count 0 [] os,
    )) in
    let there = taken-at os l.i l.known l.all.items o.item l.invariant o.there in
    let text = text-is os l.i o.item _ l.invariant.strings o.there in
    let is = c.index.ensures ∙ get_or_from_slice_get l.all.items l.i _ _ there in
    taken-next os l.i l.known c.take.new.self l.all.items o.item c.in_ok-all-2.field-0 o.there l.invariant
    c.in_ok-all-2.ensures.strings (c.in_ok-all-2.ensures.names o.item text is)
    (c.in_ok-all-2.ensures.early o.item text is)

pub returns-clause-names : goal.returns-clause-names
returns-clause-names c = grind (arith, c.loop-i.invariant.names, drop_all, numbered-count, common_steps)

pub returns-clause-early : goal.returns-clause-early
returns-clause-early c =
    grind (arith, c.loop-i.invariant.found, c.loop-i.invariant.splits, drop_all, numbered-count, append-nil)
