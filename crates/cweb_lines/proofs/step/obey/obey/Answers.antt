use Rattle.cweb_lines.proofs.Common.{rules, ◌<◌, ◌∷◌, ℕ, List, Vec, Global, length, ap, sym, subst, ◌∙◌, arith, string_bytes, common_steps, opened_file_names, at_place, counters_of, world_in, found_at, Event, opening, SourceFault, NoName, TooDeep, NotThere}
use Rattle.cweb_lines.proofs.ReadersStayNamed.{knows_only}
use Rattle.cweb_lines.proofs.ReportsOnlyGrow.{reported_if}
use Rattle.cweb_lines.proofs.Found.{OnOk-map}
use Rattle.cweb_lines.proofs.Merges.{yields_opening, merge_no_name, merge_too_deep, merge_not_there, merge_opens, empty_is, some_are}
use Rattle.cweb_lines.proofs.MergeStateEvents.{coming_opened, yields_reported}
use Rattle.cweb_lines.proofs.step.obey.obey.Goals as goal

pub returns-then-is_empty : goal.returns-then-is_empty
returns-then-is_empty g c =
    let report = c.report in
    record {
      same = search rules;
      readers = λ seen it known. knows_only report.ensures.only known;
      still = reported_if report.result _ _ _ report.ensures.reported report.ensures.err
          (ap opened_file_names report.ensures.only.names);
      only = search rules;
      yields = λ seen it. OnOk-map c.report.result (λ reported source is. record {
        rest = _;
        first = merge_no_name _ source c.args.line.now c.args.at is _ _ _ _ c.requires.plain.plain c.requires.include
            (sym c.include_name-name.ensures ∙ empty_is c.include_name-name.result.now
            (sym c.is_empty.ensures ∙ c.if-is_empty.true));
        yields = yields_reported _ _ c.args.run.now c.report.new.self (at_place NoName c.args.at.place)
            c.report.ensures.only reported;
      }) c.report.ensures.reported;
    }

pub returns-then-at-ge-OPEN_FILES : goal.returns-then-at-ge-OPEN_FILES
returns-then-at-ge-OPEN_FILES g c =
    let report = c.report-then-at-ge-OPEN_FILES in
    record {
      same = search rules;
      readers = λ seen it known. knows_only report.ensures.only known;
      still = reported_if report.result _ _ _ report.ensures.reported report.ensures.err
          (ap opened_file_names report.ensures.only.names);
      only = search rules;
      yields = λ seen it. OnOk-map c.report-then-at-ge-OPEN_FILES.result
          (λ reported source is.
          let some = subst (λ (n : List ℕ). 0 < length n) c.include_name-name.ensures
          (some_are c.include_name-name.result.now (sym c.is_empty.ensures ∙ c.if-is_empty.false)) in
          record {
            rest = _;
            first = merge_too_deep _ source c.args.line.now c.args.at is _ _ _ _ c.requires.plain.plain
                c.requires.include some (omega (arith, c.if-at-ge-OPEN_FILES.true));
            yields = yields_reported _ _ c.args.run.now c.report-then-at-ge-OPEN_FILES.new.self
                (at_place TooDeep c.args.at.place) c.report-then-at-ge-OPEN_FILES.ensures.only reported;
          }) c.report-then-at-ge-OPEN_FILES.ensures.reported;
    }

pub returns-in_default : goal.returns-in_default
returns-in_default g c =
    let report = c.report-in_default in
    record {
      same = c.in_ok-opening.ensures.same;
      readers = λ seen it known. knows_only report.ensures.only known;
      still = reported_if report.result _ _ _ report.ensures.reported report.ensures.err
          (ap opened_file_names report.ensures.only.names);
      only = search rules;
      yields = λ seen it. OnOk-map c.report-in_default.result (λ reported source is.
          let some = subst (λ (n : List ℕ). 0 < length n) c.include_name-name.ensures
          (some_are c.include_name-name.result.now (sym c.is_empty.ensures ∙ c.if-is_empty.false)) in
          let none = rw c.in_default.is at (c.in_ok-opening.ensures.found seen it) in
          record {
            rest = _;
            first = merge_not_there _ source c.args.line.now c.args.at is _ _ _ _ c.requires.plain.plain
                c.requires.include some (omega (arith, c.if-at-ge-OPEN_FILES.false)) (none ∙ ap (found_at (world_in
                seen.texts c.args.run.now.inputs)) c.include_name-name.ensures);
            yields = yields_reported _ _ c.args.run.now c.report-in_default.new.self (at_place NotThere
                c.args.at.place) c.report-in_default.ensures.only reported;
          }) c.report-in_default.ensures.reported;
    }

pub returns : goal.returns
returns g c = record {
  same = c.in_ok-opening.ensures.same;
  readers = λ seen it known. c.open.ensures.readers seen.opened_as
      (rw c.in-Some.is at (c.in_ok-opening.ensures.opened seen it)) known;
  still = c.open.ensures.still;
  only = grind (arith, common_steps);
  yields = λ seen it. OnOk-map c.open.result (λ names source is.
      let some = subst (λ (n : List ℕ). 0 < length n) c.include_name-name.ensures
      (some_are c.include_name-name.result.now (sym c.is_empty.ensures ∙ c.if-is_empty.false)) in
      let there = rw c.in-Some.is at (c.in_ok-opening.ensures.found seen it) in
      record {
        rest = _;
        first = merge_opens _ source c.args.line.now c.args.at is _ _ _ _ c.requires.plain.plain
            (string_bytes c.in-Some.opening.name) (seen.left c.in-Some.opening.reader)
            c.requires.include some (omega (arith, c.if-at-ge-OPEN_FILES.false))
            (there ∙ ap (found_at (world_in seen.texts c.args.run.now.inputs))
            c.include_name-name.ensures);
        yields = yields_opening _ _ _ _ (ap counters_of c.open.ensures.only.limits) (string_bytes
            c.in-Some.opening.name) (ap (λ (es : List Event). opening (string_bytes c.in-Some.opening.name) ∷ es)
            (coming_opened seen.texts seen.left c.args.run.now c.open.new.run c.in-Some.opening.reader
            (string_bytes c.in-Some.opening.name) c.args.at c.open.ensures.only names.0 c.requires.plain.settled
            names.1 c.open.ensures.below)) (ap (λ (v : Vec SourceFault Global). v.items) c.open.ensures.only.faults)
            names.0;
      }) c.open.ensures.opens;
}
