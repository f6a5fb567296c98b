use Rattle.cweb_tools.proofs.Common.{◌≡◌, [], List, ℕ, Some, sym, ◌∙◌, ap, subst, Event, Stop, IsSome, option_copied, World, FailedReads, SinkModel, at, EndsMerge, WebNames, merge_course, world_of, contents_of, so_far, subject, written_lines, emitted_lines, failed_reads, written, arith}
use Rattle.std.specs.Option.{is_some}
use Rattle.cweb_lines.specs.surface.Writing.{Writes}
use Rattle.cweb_tools.specs.inner.Variables.{merge_word_names}
use Rattle.cweb_tools.proofs.Exits.{left_by, observed}
use Rattle.cweb_tools.proofs.Broken.{shelf_after}
use Rattle.cweb_tools.proofs.MergeExits.{start_stopped, completed, halted_early}
use Rattle.cweb_tools.proofs.MergeStops.{more_known, out_of, stays_known}
use Rattle.cweb_tools.proofs.wmerge.merge_web.Goals as goal

pub returns-in-Err : goal.returns-in-Err
returns-in-Err g c =
    let world : World = world_of (contents_of (g.S.Shelf.model c.args.shelf.now)).texts (option_copied c.args.inputs) in
    let names : WebNames = merge_word_names c.args.args.now in
    let searched = c.in-Err.ensures in
    let old = g.S.Shelf.model c.args.shelf.now in
    let first : FailedReads = failed_reads (g.S.Shelf.model c.args.shelf.now) in
    let out : SinkModel = g.W.Sink.model c.args.out.now in
    let log : SinkModel = g.L.Sink.model c.args.log.now in
    let log' : SinkModel = g.L.Sink.model c.log_stop.new.log in
    subst (λ (shelf : FailedReads). EndsMerge (Some names) (merge_course world (Some names)) (at first out log)
    (at shelf out log') c.log_stop.result)
    (sym (ap failed_reads searched.same))
    (start_stopped world names first out log log' _ c.log_stop.ensures.status _ _ c.in-Err.stop searched.only
    (λ some. rw (c.as_str.ensures.value, c.second.ensures, c.change.ensures)
    at (searched.stops (contents_of old) (observed old some)))
    (rw (c.start_subject.ensures, c.as_str-in-Err.ensures.value, c.change-in-Err.ensures) at c.log_stop.ensures.logs))

pub returns-in-Ok-write_merged_in_chunks : goal.returns-in-Ok-write_merged_in_chunks
returns-in-Ok-write_merged_in_chunks g c =
    let begun = c.in-Ok.ensures in
    let wrote = c.in-Ok-write_merged_in_chunks.ensures in
    let model = g.S.Shelf.model c.args.shelf.now in
    let old = failed_reads model in
    let new = failed_reads (g.S.Shelf.model c.write_merged_in_chunks.new.shelf) in
    let same : new ≡ old = ap failed_reads ((wrote.reads begun.running).1 ∙ begun.same) in
    let wrote_all = λ (some : IsSome old.blamed).
    wrote.ok (contents_of model) (ap (λ m. m.contents) begun.same ∙ observed model some) in
    completed (world_of (contents_of model).texts (option_copied c.args.inputs)) (merge_word_names c.args.args.now) _ _
    old new (out_of old (g.W.Sink.model c.args.out.now))
    (out_of new (g.W.Sink.model c.write_merged_in_chunks.new.out))
    (g.L.Sink.model c.args.log.now) (g.L.Sink.model c.log_faults.new.log) _ _ _
    (λ some. rw (c.as_str.ensures.value, c.second.ensures, c.change.ensures, c.folder.ensures)
    at (begun.begins (contents_of model) (observed model some))) _ _ _
    c.names.ensures c.faults.ensures.value (λ some. (wrote_all some).yields)
    wrote.grows.lines wrote.grows.bytes same
    (λ events is i. record {
      failed = wrote.ended.2 i;
      contents = more_known old.blamed new.blamed _ _ (written_lines (emitted_lines events))
          (ap (λ reads. is_some reads.blamed) same) (λ some. ap (λ (sink : SinkModel). sink.contents)
          ((wrote_all some).wrote ∙ ap (λ (events : List Event). written
          (written_lines (emitted_lines events)) (g.W.Sink.model c.args.out.now)) (sym (is some)))) i;
    })
    c.log_faults.ensures

pub returns : goal.returns
returns g c =
    let begun = c.in-Ok.ensures in
    let wrote = c.in-Err-write_merged_in_chunks.ensures in
    let stop : Stop = c.in-Err-write_merged_in_chunks.stop in
    let running = begun.running in
    let blames = wrote.blames running in
    let model = g.S.Shelf.model c.args.shelf.now in
    let old = failed_reads model in
    let new = failed_reads (g.S.Shelf.model c.write_merged_in_chunks.new.shelf) in
    let opened = (so_far c.write_merged_in_chunks.new.merger).names in
    let left : new ≡ shelf_after stop (subject opened stop) old = grind (arith, left_by) in
    let stays : is_some new.blamed ≡ is_some old.blamed = grind (arith, stays_known) in
    let seen = λ (some : IsSome old.blamed). ap (λ m. m.contents) begun.same ∙ observed model some in
    halted_early (world_of (contents_of model).texts (option_copied c.args.inputs)) (merge_word_names c.args.args.now)
    _ _ old new (out_of old (g.W.Sink.model c.args.out.now))
    (out_of new (g.W.Sink.model c.write_merged_in_chunks.new.out))
    (g.L.Sink.model c.args.log.now) (g.L.Sink.model c.log_stop-in-Err-write_merged_in_chunks.new.log) _ _ _
    (λ some. rw (c.as_str.ensures.value, c.second.ensures, c.change.ensures, c.folder.ensures)
    at (begun.begins (contents_of model) (observed model some))) stop _ _
    (Writes (g.W.Sink.model c.args.out.now) (g.W.Sink.model c.write_merged_in_chunks.new.out))
    c.names-in-Err-write_merged_in_chunks.ensures wrote.grows.lines
    wrote.grows.bytes blames.kind (λ some. (wrote.stops (contents_of model) (seen some) running).why)
    (λ text is. more_known old.blamed new.blamed _ _ text stays (λ some. ap (λ (sink : SinkModel). sink.contents) is))
    blames.named (λ some. (wrote.stops (contents_of model) (seen some) running).reported)
    (left ∙ ap (λ (names : List (List ℕ)). shelf_after stop (subject names stop) old)
    (sym c.names-in-Err-write_merged_in_chunks.ensures))
    (λ some. let prefix = wrote.prefix (contents_of model) (seen some) in record {
      prefix = prefix.prefix;
      rest = prefix.rest;
      whole = prefix.whole;
      is = more_known old.blamed new.blamed _ _ prefix.prefix stays (λ again. prefix.is);
    })
    (λ silent. more_known old.blamed new.blamed _ _ [] stays (λ some. absurd (silent some))) blames.out
    (rw c.subject.ensures at c.log_stop-in-Err-write_merged_in_chunks.ensures.logs)
    c.log_stop-in-Err-write_merged_in_chunks.ensures.status
