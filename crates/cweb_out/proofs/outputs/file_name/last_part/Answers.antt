use Rattle.cweb_out.proofs.Common.{arith}
use Rattle.std.proofs.Common.{length-drop}
use Rattle.std.proofs.lemmas.List.Sums.{suffix_len_is}
use Rattle.std.proofs.lemmas.List.{take_all}
use Rattle.cweb_out.proofs.outputs.file_name.last_part.Goals as goal

pub returns : goal.returns
returns c = grind (arith, suffix_len_is, length-drop, take_all)
