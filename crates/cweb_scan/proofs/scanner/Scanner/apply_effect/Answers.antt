use Rattle.cweb_scan.proofs.Common.{sym, subst, HasPartRoom}
use Rattle.cweb_scan.proofs.Rooms.{end_macro_room}
use Rattle.cweb_scan.proofs.scanner.Scanner.apply_effect.Goals as goal

pub begin_part-requires-clause-room : goal.begin_part-requires-clause-room
begin_part-requires-clause-room c =
    let room : HasPartRoom c.args.self.now =
    record { for_tokens = c.requires.room.for_tokens; for_a_part = c.requires.room.for_a_part } in
    subst HasPartRoom (sym c.end_macro-in-Program.ensures) (end_macro_room c.args.self.now room)
