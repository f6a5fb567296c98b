use Rattle.cweb_tools.proofs.Common.{◌<◌, length, arith, opened_file_names}
use Rattle.cweb_tools.proofs.Logging.{faults_said, some_by}
use Rattle.cweb_tools.proofs.wmerge.log_faults.Goals as goal

pub returns : goal.returns
returns g c =
    let some : 0 < length c.args.faults.now = grind (arith, some_by) in
    faults_said c.write_log.result (opened_file_names c.args.names.now) c.args.faults.now
    (λ none. omega (arith, none, some)) c.write_log.ensures
