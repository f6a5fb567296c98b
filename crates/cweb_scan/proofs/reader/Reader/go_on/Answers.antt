use Rattle.cweb_scan.proofs.Common.{List, ℕ, ◌≡◌, ◌-◌, false, ap, sym, ◌∙◌, subst, arith, length, opens_in, Place, IsPending, ReaderModel, BeginsLine, next_match, with_line}
use Rattle.cweb_scan.proofs.FirstMatchTaken.{between}
use Rattle.cweb_scan.proofs.PendingItems.{Holds, with_line-length, pending_now, pending_ends}
use Rattle.cweb_scan.proofs.PendingKinds.{EndsWith, stays_with, ends_with, can_take, applies_to, pending_room}
use Rattle.cweb_scan.proofs.reader.Reader.go_on.Goals as goal
use Rattle.cweb_scan.proofs.reader.Reader.go_on.Goals.{In_ok-push-2}

now : (c : In_ok-push-2) → Holds c.self.inside.item c.self.inside.scanner c.self.inside.begun
    c.self.inside.pending.items c.self.inside.places.items c.args.self.now
now c = grind (arith, pending_now)

text : (c : In_ok-push-2) → c.extend_from_slice.new.self.items ≡ with_line c.self.inside.pending.items c.args.line.now
text c = grind arith

opens : (c : In_ok-push-2) → opens_in c.self.inside.scanner.context
    (with_line c.self.inside.pending.items c.args.line.now) ≡ c.in_ok-stays.stays
opens c = grind (arith, now)

ends : (c : In_ok-push-2) → c.in_ok-stays.stays ≡ false → EndsWith c.self.inside.item c.self.inside.scanner
    c.self.inside.pending.items c.args.line.now c.self.inside.places.items c.args.place
ends c ended = grind (arith, ends_with, now, opens)

pub invariant_of-self-then-stays : goal.invariant_of-self-then-stays
invariant_of-self-then-stays c k =
    let p = (goal.at.invariant_of-self-then-stays c).In_ok-push-2 in
    let r = c.self.inside in
    let line = c.args.line.now in
    subst (λ (v : List ℕ). IsPending r.item r.scanner.context v c.push-2.new.self.items) (sym (text p))
    (subst (λ (qs : List Place). IsPending r.item r.scanner.context (with_line r.pending.items line) qs)
    (sym c.in_ok-push-2.ensures.items) (stays_with r.item r.scanner r.pending.items line r.places.items c.args.place
    (now p).pending (now p).source c.requires.room.clean (opens p ∙ c.if-stays.true)))

pub take_whole-requires : goal.take_whole-requires
take_whole-requires c =
    let p = (goal.at.take_whole-requires c).In_ok-push-2 in
    let r = c.self.inside in
    can_take r.item r.scanner _ _ _ _ (c.deref.ensures.value ∙ text p)
    (c.deref-2.ensures.value ∙ c.in_ok-push-2.ensures.items) ((ends p c.if-stays.false).ready
    (pending_room c.args.self.now r.scanner r.begun r.pending.items r.places.items 3 (now p).view
    (now p).source.newlines (omega arith) (omega (arith, c.requires.room.room))))

pub overflow_sub-result-2 : goal.overflow_sub-result-2
overflow_sub-result-2 c =
    let p = (goal.at.overflow_sub-result-2 c).In_ok-push-2 in
    let s = c.self.inside.scanner in
    omega (
      arith,
      c.in_ok-size.ensures.size ∙ ap (λ (t : List ℕ). (next_match s t).size) (c.deref.ensures.value ∙ text p)
          ∙ (ends p c.if-stays.false).past,
      c.len.ensures,
      ap (λ (t : List ℕ). length t) (text p),
      with_line-length c.self.inside.pending.items c.args.line.now,
    )

pub returns : goal.returns
returns c =
    let p = (goal.at.returns c).In_ok-push-2 in
    let r = c.self.inside in
    let w = r.pending.items in
    let line = c.args.line.now in
    let end = ends p c.if-stays.false in
    let new = c.take_whole.new.self in
    let n = c.in_ok-size.size in
    let applies = applies_to r.scanner new _ _ _ _ n (c.deref.ensures.value ∙ text p)
    (c.deref-2.ensures.value ∙ c.in_ok-push-2.ensures.items) c.in_ok-size.ensures in
    let k = n - (c.len.result - length line) in
    subst (λ (h : ReaderModel). BeginsLine c.args.place line k h (between new r.begun)) (now p).view
    (pending_ends w line r.places.items c.args.place r.scanner new r.begun n k
    (ap (λ (h : ReaderModel). h.begun) (now p).view ∙ c.requires.begun)
    (omega (
      arith,
      applies.size,
      end.past,
      c.len.ensures,
      ap (λ (t : List ℕ). length t) (text p),
      with_line-length w line,
    )) (end.taken n new applies))
