use Rattle.cweb_scan.proofs.Common.{sym, ap, ◌∙◌, subst, report_name_fault, name_occurrence, HasPartRoom, arith}
use Rattle.cweb_scan.proofs.Rooms.{end_macro_room, name_room}
use Rattle.cweb_scan.proofs.scanner.Scanner.end_name.Goals as goal

pub open_name-requires-clause-room : goal.open_name-requires-clause-room
open_name-requires-clause-room c =
    let o = name_occurrence c.args.is_file c.args.text.now in
    let same = c.in_ok-report_name_fault.ensures
    ∙ ap (report_name_fault c.args.how c.args.begun) c.in_ok-name.ensures.ok in
    end_macro_room _ (subst HasPartRoom (sym same) (name_room c.args.how c.args.begun o c.args.self.now c.requires))

pub use_name-requires-clause-room : goal.use_name-requires-clause-room
use_name-requires-clause-room c = grind (arith, name_room)
