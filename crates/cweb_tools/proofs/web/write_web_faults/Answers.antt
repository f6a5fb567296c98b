use Rattle.cweb_tools.proofs.Common.{refl, scanned_model, files_of}
use Rattle.cweb_files.proofs.Appending.{wrote_then, wrote_until}
use Rattle.cweb_tools.proofs.Logging.{fault_text}
use Rattle.cweb_tools.proofs.web.write_web_faults.Goals as goal

pub returns-in_err-write_log : goal.returns-in_err-write_log
returns-in_err-write_log g c = rw (fault_text (files_of c.args.web) c.args.web.faults.now
    (scanned_model c.args.web.scanned.now))
    (wrote_until _ _ _ _ _ _ c.from_residual.ensures.0 refl c.in_err-write_log.ensures)

pub returns-in_err-write_log-2 : goal.returns-in_err-write_log-2
returns-in_err-write_log-2 g c = rw (fault_text (files_of c.args.web) c.args.web.faults.now
    (scanned_model c.args.web.scanned.now)) (wrote_then _ _ _ _ _ _ c.in_ok-write_log.ensures
    (wrote_until _ _ _ _ _ _ c.from_residual-in_err-write_log-2.ensures.0 refl
    (rw c.as_slice.ensures.value at c.in_err-write_log-2.ensures)))

pub returns : goal.returns
returns g c = rw (fault_text (files_of c.args.web) c.args.web.faults.now (scanned_model c.args.web.scanned.now))
    (wrote_then _ _ _ _ _ _ c.in_ok-write_log.ensures (wrote_then _ _ _ _ _ _ (rw c.as_slice.ensures.value
    at c.in_ok-write_log-2.ensures) (rw c.store.ensures at c.write_log-3.ensures)))
