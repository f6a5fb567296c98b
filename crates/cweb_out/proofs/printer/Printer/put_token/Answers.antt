use Rattle.std.proofs.Common.{arith}
use Rattle.cweb_out.proofs.Common.{◌≡◌, ◌++◌, Bool, Token, false, Printer, plain_bytes, added, file_by, is_apart, is_dropped, blank_where, own_line_bytes, left_in_printer, setting_of}
use Rattle.cweb_files.proofs.Appending.{wrote_until}
use Rattle.cweb_out.proofs.AppendedParts.{second_until, three_then}
use Rattle.cweb_out.proofs.printer.Printer.put_token.Goals as goal

-- The token's bytes as three parts.
in_three : (p : Printer) (t : Token) (apart : Bool) → is_dropped (left_in_printer p) t ≡ false
    → apart ≡ is_apart (left_in_printer p).last t → added (file_by (setting_of p)) (left_in_printer p) t
    ≡ blank_where apart
    ++ (own_line_bytes (setting_of p) (left_in_printer p).last t ++ plain_bytes (setting_of p).replaced t)
in_three p t apart stays is = cc (stays, is)

pub returns-in_err-write_blank : goal.returns-in_err-write_blank
returns-in_err-write_blank g c = grind (arith, wrote_until, in_three)

pub returns-in_err-write_placed : goal.returns-in_err-write_placed
returns-in_err-write_placed g c = grind (arith, second_until, in_three)

pub returns : goal.returns
returns g c = grind (arith, three_then, in_three)
