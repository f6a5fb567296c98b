use Rattle.cweb_lines.proofs.Common.{rules, ◌≡◌, ◌+◌, ◌∙◌, List, ℕ, [], bytes_left, counters_of, arith, same_error, Option, FileId, shelf_after}
use Rattle.cweb_lines.proofs.ReadersStayNamed.{blames_known, blames_some, line_blames}
use Rattle.cweb_lines.proofs.TrimmedLines.{takes_first, line_stops, line_reads, line_needs, first_passes}
use Rattle.cweb_lines.proofs.open_source.take.take_line.Goals as goal

pub returns-in-Err-clause-takes : goal.returns-in-Err-clause-takes
returns-in-Err-clause-takes g c =
    let reads = c.in-Err.ensures.reads in
    let reader = c.args.text.now.source.reader.value in
    let old = g.S.Shelf.model c.args.shelf.now in
    record {
      reads = (
        λ file. (blames_some old reader).0,
        line_blames (Option ℕ) c.in-Err.fault _ c.args.text.now.file reader old _ _ c.stop_of.ensures reads.shelf
            (blames_some old reader).1,
      );
      taken = λ seen is. tt;
      stops = grind (arith, line_stops, c.stop_of.ensures, c.in-Err.ensures.fails.too_long);
      needed = grind (arith, line_needs, c.stop_of.ensures, c.in-Err.ensures.fails.needed);
      named = grind (arith, line_blames, blames_known, c.stop_of.ensures);
      text = search rules;
      answers = search (rules, line_reads c.in-Err.fault _ c.args.text.now.file c.stop_of.ensures);
    }

pub returns-in_err-add-clause-takes : goal.returns-in_err-add-clause-takes
returns-in_err-add-clause-takes g c =
    let reads = c.in-Ok.ensures.reads in
    let same : (name : FileId → List ℕ) → g.S.Shelf.model c.take_trimmed.new.shelf
    ≡ shelf_after name c.in_err-add.field-0.0 (g.S.Shelf.model c.args.shelf.now) = λ name.
    rw c.in_err-add.ensures.stop reads.shelf in
    rw (same_error _ _ c.from_residual.ensures.1) (record {
      reads = (λ file. [], same _);
      taken = λ seen is. tt;
      stops = λ seen is.
          let line = rw c.in-Some.is at (c.in-Ok.ensures.taken seen is) in
          first_passes c.in_err-add.field-0.0 line.taken (bytes_left seen.left c.args.text.now.source)
          (bytes_left seen.left c.take_trimmed.new.source) line.raw c.args.text.now.file.0
          (c.args.text.now.line + 1) (counters_of c.args.limits.now) line.some line.takes line.short
          c.in_err-add.ensures.stop (rw line.size_is at c.in_err-add.ensures.passed);
      needed = rw c.in_err-add.ensures.stop tt;
      named = λ seen is names named. (reads.opened seen is ∙ named, same _);
      text = search rules;
      answers = search rules;
    })

pub returns-in_default-clause-takes : goal.returns-in_default-clause-takes
returns-in_default-clause-takes g c = record {
  reads = (λ file. [], c.in-Ok.ensures.reads.shelf);
  taken = search rules;
  stops = λ seen is. tt;
  needed = tt;
  named = λ seen is names named. (c.in-Ok.ensures.reads.opened seen is ∙ named, c.in-Ok.ensures.reads.shelf);
  text = search rules;
  answers = search rules;
}

pub returns-clause-takes : goal.returns-clause-takes
returns-clause-takes g c = record {
  reads = (λ file. [], c.in-Ok.ensures.reads.shelf);
  taken = λ seen is.
      let line = rw c.in-Some.is at (c.in-Ok.ensures.taken seen is) in
      takes_first c.take_trimmed.new.line.items line.raw (bytes_left seen.left c.args.text.now.source)
      (bytes_left seen.left c.take_trimmed.new.source) c.args.text.now.file.0
      (c.args.text.now.line + 1) c.args.text.now.depth c.args.text.now.may_match line.taken
      (counters_of c.args.limits.now) (counters_of c.add.new.self) line.some line.takes line.bytes_are line.short
      c.in_ok-add.ensures.lines (rw line.size_is at c.in_ok-add.ensures.bytes);
  stops = λ seen is. tt;
  needed = tt;
  named = λ seen is names named. (c.in-Ok.ensures.reads.opened seen is ∙ named, c.in-Ok.ensures.reads.shelf);
  text = search rules;
  answers = search rules;
}
