use Rattle.cweb_lines.proofs.Common.{[], append-nil, refl, same_error}
use Rattle.cweb_lines.proofs.change.seek.look_after_x.Goals as goal

pub returns-in_err-report-clause-err : goal.returns-in_err-report-clause-err
returns-in_err-report-clause-err g c = rw (same_error _ _ c.from_residual.ensures.1) (λ source is lines.
    record { prefix = []; rest = _; whole = refl; reported = simp (c.in_err-report.ensures.err, append-nil) })
