use Rattle.cweb_scan.proofs.Common.{sym, subst, so_far, to_come, Scanned, ScansWithinLimits, Scans, arith}
use Rattle.cweb_scan.proofs.Scans.{grows_to, refused}
use Rattle.cweb_lines.proofs.NoReadFails.{unread}
use Rattle.cweb_scan.proofs.scanning.scan.Goals as goal

-- No line is left.
pub returns-in-Ok-clause-scans : goal.returns-in-Ok-clause-scans
returns-in-Ok-clause-scans g c =
    λ seen it. subst (λ (s : Scanned). Scans s (so_far c.args.merger.now) (so_far c.take_lines.new.merger) (to_come
    seen c.args.merger.now)) (sym c.in-Ok.ensures) (c.in_ok-take_lines.ensures.scans seen it)

pub returns-in-Ok-clause-within : goal.returns-in-Ok-clause-within
returns-in-Ok-clause-within g c = subst (λ (s : Scanned). ScansWithinLimits (so_far c.take_lines.new.merger) s)
    (sym c.in-Ok.ensures) c.in_ok-take_lines.ensures.within

-- The allocation of the store failed.
pub returns-clause-grows : goal.returns-clause-grows
returns-clause-grows g c = grows_to _ _ _ c.halt.ensures.so_far c.in_ok-take_lines.ensures.grows

pub returns-clause-stops : goal.returns-clause-stops
returns-clause-stops g c = grind (arith, refused)

pub returns-clause-reads : goal.returns-clause-reads
returns-clause-reads g c = grind (arith, unread)

pub returns-clause-blamed : goal.returns-clause-blamed
returns-clause-blamed g c = grind (arith, unread)
