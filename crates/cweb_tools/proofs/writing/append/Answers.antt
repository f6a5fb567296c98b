use Rattle.std.proofs.Common.{rules}
use Rattle.cweb_tools.proofs.BufferedLog.{passed}
use Rattle.cweb_tools.proofs.writing.append.Goals as goal

pub returns : goal.returns
returns g c = passed _ _ _ _ _ _ _
    (rw (c.as_slice.ensures.value, c.in_default.ensures.err) at c.in_ok-write_all.ensures.wrote)
    (rw c.in_default-try_extend_from_slice.ensures.err c.clear.ensures) c.write_all-2.ensures.wrote

pub returns-in-Ok-try_extend_from_slice : goal.returns-in-Ok-try_extend_from_slice
returns-in-Ok-try_extend_from_slice g c = search rules
