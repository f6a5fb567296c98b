use Rattle.cweb_store.proofs.Common.{◌≡◌, take, ◌∙◌}
use Rattle.cweb_store.proofs.StringListLemmas.{dropped-last}
use Rattle.cweb_store.proofs.InterningLemmas.{sorted-known, sorted-new}
use Rattle.cweb_store.proofs.words.intern_sorted.Goals as goal

pub returns-then-number-next-clause-ok : goal.returns-then-number-next-clause-ok
returns-then-number-next-clause-ok c =
    let strings = c.args.strings.now in
    let es = c.args.sorted.now.entries in
    let back : c.truncate.new.self ≡ strings = c.truncate.ensures
    ∙ (λ i. take (c.in_ok-next.ensures.number i) (c.in_ok-next.ensures.added i))
    ∙ dropped-last strings c.args.word.now in
    rw back
    (sorted-known strings es c.number_in.new.sorted.entries c.args.word.now c.in-Ok.number c.in_ok-next.next
    c.requires.mapped c.in-Ok.ensures.number c.if-number-next.true c.in-Ok.ensures.inserted)

pub returns-else-number-next-clause-ok : goal.returns-else-number-next-clause-ok
returns-else-number-next-clause-ok c =
    let strings = c.args.strings.now in
    let es = c.args.sorted.now.entries in
    rw c.in_ok-next.ensures.added
    (sorted-new strings es c.number_in.new.sorted.entries c.args.word.now c.in-Ok.number c.in_ok-next.next
    c.requires.mapped
    c.in_ok-next.ensures.number c.in-Ok.ensures.number c.if-number-next.false c.in-Ok.ensures.inserted)
