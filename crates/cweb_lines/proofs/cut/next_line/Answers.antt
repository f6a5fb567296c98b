use Rattle.cweb_lines.proofs.Common.{Some, ◌≡◌, ◌<◌, ⊎_elim, cases_lt, HasNoNewline, ◌++◌, [], ℕ, List, sym, ◌∙◌, ap, subst, rules, refl, Err, append_assoc, err_from_is_err_and, bytes_left, buffered, IsLongerThan, TakesFromBuffer, TooLong, LINE_LENGTH, arith, inr, ShelfContents}
use Rattle.cweb_lines.proofs.Newlines.{longer_more, none_buffered, taken_full, taken_more}
use Rattle.cweb_lines.proofs.cut.next_line.Given as given
use Rattle.cweb_lines.proofs.cut.next_line.Goals as goal
use Rattle.cweb_lines.proofs.cut.next_line.Goals.{In_ok-refill}

-- The initial rest is the line so far, then the buffer, then what the reader has left.
so_far : (g : given.Over) (c : In_ok-refill g) (seen : ShelfContents g.row.S-R.Denot)
    → (g.S.Shelf.model c.args.shelf.now).contents ≡ Some seen
    → bytes_left seen.left c.args.source.now ≡ c.pieces.line.items ++ bytes_left seen.left c.refill.new.source
so_far g c seen is = grind arith

pub returns-in_err-take_buffered-clause-fails : goal.returns-in_err-take_buffered-clause-fails
returns-in_err-take_buffered-clause-fails g c = record {
  needed = search rules;
  too_long = λ seen is long_is.
      let p =
      err_from_is_err_and c.from_residual-in_err-take_buffered.result c.from_residual-in_err-take_buffered.ensures.1 in
      let fault : c.in_err-take_buffered.field-0.0 ≡ TooLong = cc (p.1, p.2, long_is) in
      let long = c.in_err-take_buffered.ensures.too_long c.pieces.invariant.none (ap Err fault) in
      let rest = seen.left c.refill.new.source.reader.value in
      subst (λ (l : List ℕ). IsLongerThan LINE_LENGTH l) (append_assoc c.pieces.line.items (buffered
      c.refill.new.source) rest ∙ sym (so_far g (goal.at.returns-in_err-take_buffered-clause-fails g c).In_ok-refill
      seen is)) (longer_more LINE_LENGTH (c.pieces.line.items ++ buffered c.refill.new.source) rest long);
}

pub returns-then-branch-clause-taken : goal.returns-then-branch-clause-taken
returns-then-branch-clause-taken g c = λ seen is.
    let takes = subst (λ b. TakesFromBuffer
    (buffered c.refill.new.source) c.pieces.line.items b c.take_buffered.new.line.items
    (buffered c.take_buffered.new.source)) c.if-branch.true c.in_ok-take_buffered.ensures.taken in
    rw c.in_ok-take_buffered.ensures.reader (taken_full _ c.pieces.line.items (buffered c.refill.new.source)
    (seen.left c.refill.new.source.reader.value) c.take_buffered.new.line.items
    (buffered c.take_buffered.new.source)
    (so_far g (goal.at.returns-then-branch-clause-taken g c).In_ok-refill seen is) c.pieces.invariant.none takes)

pub pieces-preserved : goal.pieces-preserved
pieces-preserved g c =
    let takes = subst (λ b. TakesFromBuffer
    (buffered c.refill.new.source) c.pieces.line.items b c.take_buffered.new.line.items
    (buffered c.take_buffered.new.source)) c.if-branch.false c.in_ok-take_buffered.ensures.taken in
    let unread : c.pieces.source ≡ c.args.source.now → HasNoNewline (buffered c.args.source.now) =
    λ same. subst (λ source. HasNoNewline (buffered source)) same (⊎_elim
    (λ (some : c.pieces.source.start < c.pieces.source.end).
    subst (λ source. HasNoNewline (buffered source)) (c.in_ok-refill.ensures.kept some) takes.0)
    (λ past. none_buffered c.pieces.source past) (cases_lt c.pieces.source.start c.pieces.source.end)) in
    record {
      same = c.in_ok-refill.ensures.reads.shelf ∙ c.pieces.invariant.same;
      opened = λ seen is. ap seen.opened_as c.in_ok-take_buffered.ensures.reader
          ∙ c.in_ok-refill.ensures.reads.opened seen (ap (λ m. m.contents) c.pieces.invariant.same ∙ is)
          ∙ c.pieces.invariant.opened seen is;
      bytes = λ seen is. rw c.in_ok-take_buffered.ensures.reader
          ((taken_more _ c.pieces.line.items (buffered c.refill.new.source)
          (seen.left c.refill.new.source.reader.value) c.take_buffered.new.line.items
          (buffered c.take_buffered.new.source)
          (so_far g (goal.at.pieces-preserved g c).In_ok-refill seen is) c.pieces.invariant.none takes).0);
      none = (taken_more _ c.pieces.line.items (buffered c.refill.new.source) [] c.take_buffered.new.line.items
          (buffered c.take_buffered.new.source) refl c.pieces.invariant.none takes).1;
      needed = inr (⊎_elim unread (λ clean. clean) c.pieces.invariant.needed);
      within = c.in_ok-take_buffered.ensures.within;
    }

pub returns-then-branch-clause-clean : goal.returns-then-branch-clause-clean
returns-then-branch-clause-clean g c =
    let takes = subst (λ b. TakesFromBuffer
    (buffered c.refill.new.source) c.pieces.line.items b c.take_buffered.new.line.items
    (buffered c.take_buffered.new.source)) c.if-branch.true c.in_ok-take_buffered.ensures.taken in
    (taken_full _ c.pieces.line.items (buffered c.refill.new.source) [] c.take_buffered.new.line.items
    (buffered c.take_buffered.new.source) refl c.pieces.invariant.none takes).1

pub returns-else-is_empty-clause-taken : goal.returns-else-is_empty-clause-taken
returns-else-is_empty-clause-taken g c = search rules
