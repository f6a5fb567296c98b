-- Room after a macro ends and after a faulty name.
use Rattle.cweb_scan.proofs.Common.{arith, Context, Macro, End, Closed, Place, Occurrence, report_name_fault, HasItemRoom, ScanState, end_macro_in, end_macro, add_name, HasPartRoom}
use Rattle.cweb_store.proofs.CallerLemmas.{token_count_closed, part_count_closed}

macro_room : (c : Context) (s : ScanState) → HasPartRoom s → HasPartRoom (end_macro_in c s)
macro_room Macro s h = grind (arith, token_count_closed, part_count_closed)
macro_room _ s h = h

pub end_macro_room : (s : ScanState) → HasPartRoom s → HasPartRoom (end_macro s)
end_macro_room s h = macro_room s.context s h

-- A name's occurrence and its fault don't change the parts.
pub name_room : (how : End) (begun : Place) (o : Occurrence) (s : ScanState)
    → HasItemRoom 2 s → HasPartRoom (report_name_fault how begun (add_name o s))
name_room Closed begun o s h = record { for_tokens = h.for_tokens; for_a_part = h.for_a_part }
name_room _ begun o s h = record { for_tokens = h.for_tokens; for_a_part = h.for_a_part }
