use Rattle.cweb_scan.proofs.Common.{sym, ap, ◌∙◌, arith, source_ended}
use Rattle.cweb_scan.proofs.PendingItems.{pending_now}
use Rattle.cweb_scan.proofs.PendingKinds.{ends_source, ready_at_end, can_take, applies_to, pending_room}
use Rattle.cweb_scan.proofs.reader.Reader.end_source.Goals as goal

pub take_whole-requires : goal.take_whole-requires
take_whole-requires c =
    let r = c.self.inside in
    let s = r.scanner in
    let w = r.pending.items in
    let ps = r.places.items in
    let now = pending_now r.item s r.begun w ps c.args.self.now c.self.view_is (sym c.is_pending.ensures
    ∙ c.if-not-is_pending.false)
    c.self.invariant in
    can_take r.item s _ _ _ _ c.deref.ensures.value c.deref-2.ensures.value
    (ready_at_end r.item s w ps now.pending now.source
    (pending_room c.args.self.now s r.begun w ps 2 now.view now.source.newlines (omega arith) (omega
    (arith, c.requires))))

pub returns : goal.returns
returns c =
    let r = c.self.inside in
    let s = r.scanner in
    let w = r.pending.items in
    let ps = r.places.items in
    let now = pending_now r.item s r.begun w ps c.args.self.now c.self.view_is (sym c.is_pending.ensures
    ∙ c.if-not-is_pending.false)
    c.self.invariant in
    let applies = applies_to s c.take_whole.new.self _ _ _ _ _ c.deref.ensures.value c.deref-2.ensures.value
    c.in_ok-take_whole.ensures in
    ends_source r.item s c.take_whole.new.self w ps _ now.pending now.source applies ∙ ap source_ended now.view
