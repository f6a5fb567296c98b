use Rattle.cweb_tools.proofs.Common.{◌≡◌, List, ℕ, refl, sym, ◌∙◌, ap, option_copied, World, Stop, contents_of, so_far, scanned_model, subject, OptionsModel, options_of, failed_reads, world_of, arith}
use Rattle.cweb_tools.proofs.Exits.{left_by, observed}
use Rattle.cweb_tools.proofs.Broken.{shelf_after}
use Rattle.cweb_tools.proofs.TangleExits.{read_stops, read_whole, start_ends}
use Rattle.cweb_tools.proofs.scanning.scan_web.Goals as goal

pub returns-in-Err-clause-stops : goal.returns-in-Err-clause-stops
returns-in-Err-clause-stops g c =
    let old = g.S.Shelf.model c.args.shelf.now in
    let world : World = world_of (contents_of old).texts (option_copied c.args.inputs) in
    let args : OptionsModel = options_of c.args.options.now in
    let searched = c.in-Err.ensures in λ later out.
    start_ends (failed_reads old) (failed_reads (g.S.Shelf.model c.start.new.shelf))
    (ap failed_reads searched.same) out (g.L.Sink.model c.args.log.now) (g.L.Sink.model c.log_stop.new.log)
    later args world _ c.log_stop.ensures.status _ _ c.in-Err.stop searched.only
    (λ some. rw (c.as_str.ensures.value, c.second.ensures, c.change.ensures)
    at (searched.stops (contents_of old) (observed old some)))
    (rw (c.start_subject.ensures, c.as_str-in-Err.ensures.value, c.change-in-Err.ensures) at c.log_stop.ensures.logs)

pub returns-in-Err-scan-clause-stops : goal.returns-in-Err-scan-clause-stops
returns-in-Err-scan-clause-stops g c =
    let old = g.S.Shelf.model c.args.shelf.now in
    let world : World = world_of (contents_of old).texts (option_copied c.args.inputs) in
    let args : OptionsModel = options_of c.args.options.now in
    let begun = c.in-Ok.ensures in
    let read = c.in-Err-scan.ensures in
    let stop : Stop = c.in-Err-scan.stop in
    let left : failed_reads (g.S.Shelf.model c.scan.new.shelf)
    ≡ shelf_after stop (subject (so_far c.scan.new.merger).names stop) (failed_reads old) = grind (arith, left_by) in
    λ later out. read_stops later args world _ _ (failed_reads old) (failed_reads
    (g.S.Shelf.model c.scan.new.shelf)) out
    (g.L.Sink.model c.args.log.now) _ _ _ _
    (λ some. rw (c.as_str.ensures.value, c.second.ensures, c.change.ensures, c.folder.ensures)
    at (begun.begins (contents_of old) (observed old some))) stop _ (g.L.Sink.model c.log_stop-in-Err-scan.new.log)
    c.names.ensures (read.blames begun.running).kind
    (λ some. read.stops (contents_of old) (ap (λ m. m.contents) begun.same ∙ observed old some) begun.running)
    (left ∙ ap (λ (names : List (List ℕ)). shelf_after stop (subject names stop) (failed_reads old))
    (sym c.names.ensures))
    read.named read.grows.lines read.grows.bytes (rw c.subject.ensures at c.log_stop-in-Err-scan.ensures.logs)
    c.log_stop-in-Err-scan.ensures.status

pub returns-in-Ok-scan-clause-scans : goal.returns-in-Ok-scan-clause-scans
returns-in-Ok-scan-clause-scans g c =
    let old = g.S.Shelf.model c.args.shelf.now in
    let world : World = world_of (contents_of old).texts (option_copied c.args.inputs) in
    let args : OptionsModel = options_of c.args.options.now in
    let begun = c.in-Ok.ensures in
    let read = c.in-Ok-scan.ensures in
    let now = so_far c.scan.new.merger in
    λ later out after status ends. read_whole later args world _ _ (failed_reads old)
    (failed_reads (g.S.Shelf.model c.scan.new.shelf)) out (g.L.Sink.model c.args.log.now) _ _ now _
    (λ some. rw (c.as_str.ensures.value, c.second.ensures, c.change.ensures, c.folder.ensures)
    at (begun.begins (contents_of old) (observed old some))) now.names now.faults
    (scanned_model c.in-Ok-scan.scanned) _ refl refl
    (λ some. read.scans (contents_of old) (ap (λ m. m.contents) begun.same ∙ observed old some))
    read.grows.lines read.grows.bytes (ap failed_reads (read.ended.2 ∙ begun.same)) ends
