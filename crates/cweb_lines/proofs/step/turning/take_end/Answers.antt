use Rattle.cweb_lines.proofs.Common.{rules, ◌∷◌, List, length, ap, sym, ◌∙◌, refl, at_place, counters_of, world_in, Event, fault, so_far_of, opened_file_names, floor_of, NoMatch, same_error}
use Rattle.cweb_lines.proofs.Merges.{yields_fault}
use Rattle.cweb_lines.proofs.MergeStateEvents.{no_match, nothing_above}
use Rattle.cweb_lines.proofs.NoReadFails.{quiet_same, reads_none, reads_reported, reads_set}
use Rattle.cweb_lines.proofs.ReadersStayNamed.{knows_only}
use Rattle.cweb_lines.proofs.ReportsOnlyGrow.{reported_same}
use Rattle.cweb_lines.proofs.step.turning.take_end.Goals as goal

pub returns-in_ok-report-in-Waiting : goal.returns-in_ok-report-in-Waiting
returns-in_ok-report-in-Waiting g c = record {
  reads = reads_set _ refl refl refl
      (reads_reported _ c.in_ok-report-in-Waiting.ensures.only c.in_ok-report-in-Waiting.ensures.reported tt);
  turns = search rules;
  yields = λ seen it.
      let none = c.requires.floor ∙ ap floor_of c.in-Waiting.is in
      yields_fault (so_far_of c.args.run.now) (so_far_of c.report.new.self) _ _
      (ap counters_of c.in_ok-report-in-Waiting.ensures.only.limits)
      (at_place NoMatch c.in-Waiting.begin) (no_match seen.texts seen.left c.args.run.now c.in-Waiting.begin
      c.in-Waiting.is none ∙ ap (λ (es : List Event). fault
      (at_place NoMatch c.in-Waiting.begin) ∷ es) (sym (nothing_above (world_in seen.texts
      c.report.new.self.inputs) seen.left c.report.new.self.stack (length (opened_file_names
      c.report.new.self.names)) (ap (λ s. s.depth) c.in_ok-report-in-Waiting.ensures.only.stack ∙ none))))
      c.in_ok-report-in-Waiting.ensures.reported (ap opened_file_names c.in_ok-report-in-Waiting.ensures.only.names);
  stops = λ seen it. tt;
}

pub returns-in_err-report-in-Waiting : goal.returns-in_err-report-in-Waiting
returns-in_err-report-in-Waiting g c =
    let report = c.in_err-report-in-Waiting.ensures in
    rw (same_error _ _ c.from_residual.ensures.1) (record {
      reads = reads_none refl (λ seen it known. knows_only report.only known)
          (reported_same _ _ report.err (ap opened_file_names report.only.names)) report.memory;
      turns = search rules;
      yields = search rules;
      stops = search rules;
    })

pub returns-in-Done : goal.returns-in-Done
returns-in-Done g c = record {
  reads = quiet_same _ _;
  turns = search rules;
  yields = search rules;
  stops = search rules;
}
