use Rattle.std.proofs.Common.{arith}
use Rattle.cweb_out.proofs.Bytes.{ascii_word}
use Rattle.cweb_files.proofs.Appending.{wrote_same}
use Rattle.cweb_out.proofs.printer.plain.write_word.Goals as goal

pub returns-else-has_high_byte : goal.returns-else-has_high_byte
returns-else-has_high_byte g c = grind (arith, wrote_same, ascii_word)
