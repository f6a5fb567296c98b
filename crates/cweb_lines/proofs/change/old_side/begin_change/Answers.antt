use Rattle.cweb_lines.proofs.Common.{rules, ◌≡◌, List, [], ◌++◌, sym, ◌∙◌, ap, subst, append-nil, map, map-append, Place, OldSide, SourceLine, Thing, Event, fault, change_events, closing_faults, SoFar, EmitsLines, ReportsPrefix, IsReplaced, ReportsFaultPrefix, Replaced, refl, counters_of, opened_file_names, arith, same_error}
use Rattle.cweb_lines.proofs.AddedEvents.{reports, reports_some, prefix_more}
use Rattle.cweb_lines.proofs.EmittedLinesAddUp.{yields_both}
use Rattle.cweb_lines.proofs.WrittenLinesAddUp.{tells_more}
use Rattle.cweb_lines.proofs.NoReadFails.{reads_reported, reads_set, reads_then}
use Rattle.cweb_lines.proofs.change.old_side.begin_change.Goals as goal

-- The faults of an old side as a whole.
module _ (begin : Place) (side : OldSide) (so_far : Replaced) (change : List SourceLine) (things : List Thing)
    (old mid new : SoFar) (by : IsReplaced side so_far change things old mid) where
  abbrev closing : List Event
  closing = map fault (closing_faults begin so_far.ended so_far.ran_out so_far.unequal)

  lines_taken : EmitsLines [] old mid (change_events begin side) closing
  lines_taken = search rules

  closes_some : ReportsFaultPrefix (closing_faults begin so_far.ended so_far.ran_out so_far.unequal) mid.faults
      new.faults → new.names ≡ mid.names → ReportsPrefix old new (change_events begin side)
  closes_some part names = tells_more [] old mid new _ _ lines_taken (subst (λ (es : List Event).
      ReportsPrefix mid new es) (sym (ap (map fault) part.whole ∙ map-append fault part.prefix part.rest))
      (reports_some part.prefix mid new (map fault part.rest) part.reported names))

  closes_all : new.faults ≡ mid.faults ++ closing_faults begin so_far.ended so_far.ran_out so_far.unequal
      → new.names ≡ mid.names → new.count ≡ mid.count → EmitsLines [] old new (change_events begin side) []
  closes_all reported names count = yields_both [] [] old mid new _ _ _ lines_taken (subst (λ (es : List Event).
      EmitsLines [] mid new es []) (append-nil closing) (reports _ mid new [] reported names count))

pub returns-in_err-replaced-clause-reported : goal.returns-in_err-replaced-clause-reported
returns-in_err-replaced-clause-reported g c = grind (arith, same_error, prefix_more)

pub returns-in_err-close-clause-reported : goal.returns-in_err-close-clause-reported
returns-in_err-close-clause-reported g c = rw (same_error _ _ c.from_residual-in_err-close.ensures.1) (λ seen it.
    closes_some c.args.begin _ c.in_ok-replaced.replaced _ _ _ _ _ (c.in_ok-replaced.ensures.replaced seen it)
    c.in_err-close.ensures.err (ap opened_file_names c.in_err-close.ensures.only.names))

pub returns-clause-changed : goal.returns-clause-changed
returns-clause-changed g c = λ seen it. record {
  yields = closes_all c.args.begin _ c.in_ok-replaced.replaced _ _ _ _ _ (c.in_ok-replaced.ensures.replaced seen it)
      c.in_ok-close.ensures.reported (ap opened_file_names c.in_ok-close.ensures.only.names)
      (ap counters_of c.in_ok-close.ensures.only.limits);
  settled = search rules;
  after = search rules;
}

pub returns-clause-reads : goal.returns-clause-reads
returns-clause-reads g c = reads_set _ refl refl refl (reads_then c.in_ok-replaced.ensures.reads
    (reads_reported _ c.in_ok-close.ensures.only c.in_ok-close.ensures.reported tt))

pub returns-in_err-close-clause-reads : goal.returns-in_err-close-clause-reads
returns-in_err-close-clause-reads g c = rw (same_error _ _ c.from_residual-in_err-close.ensures.1)
    (reads_then c.in_ok-replaced.ensures.reads
    (reads_reported _ c.in_err-close.ensures.only c.in_err-close.ensures.err.reported c.in_err-close.ensures.memory))
