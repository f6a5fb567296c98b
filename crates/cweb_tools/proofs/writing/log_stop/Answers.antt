use Rattle.std.proofs.Common.{rules}
use Rattle.cweb_tools.proofs.Common.{append-nil, stop_line}
use Rattle.cweb_tools.proofs.BufferedLog.{logs_by}
use Rattle.cweb_tools.proofs.writing.log_stop.Goals as goal

pub returns-clause-logs : goal.returns-clause-logs
returns-clause-logs g c =
    logs_by _ _ _ _ (rw (append-nil (stop_line c.args.stop c.args.name.now)) at c.write_log.ensures)

pub returns-clause-status : goal.returns-clause-status
returns-clause-status g c = search rules
