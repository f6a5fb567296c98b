use Rattle.cweb_tools.proofs.Common.{refl, arith, files_of}
use Rattle.cweb_tools.specs.inner.Tangle.{web_in}
use Rattle.cweb_tools.proofs.Doing.{does_in, ends_on, log_counted, does_plan, log_halts}
use Rattle.cweb_tools.proofs.Refusals.{planning_made, unplanned_ends}
use Rattle.cweb_tools.proofs.Statuses.{depend_status_is}
use Rattle.cweb_tools.proofs.wdep.depend_web.Goals as goal

pub returns-in-Err : goal.returns-in-Err
returns-in-Err g c = λ shelf. log_halts (does_in _ (c.in-Err.ensures shelf _)) refl

pub depend_planned-requires-clause-counts : goal.depend_planned-requires-clause-counts
depend_planned-requires-clause-counts g c = record {
  out = c.requires.counts.out;
  log = omega (arith, log_counted c.in_default.ensures, c.requires.counts.log);
}

pub write_log-requires : goal.write_log-requires
write_log-requires g c = omega (arith, log_counted c.in_default.ensures, c.requires.counts.log)

pub returns-in-Ok : goal.returns-in-Ok
returns-in-Ok g c = λ shelf.
    rw (depend_status_is c.args.targets (files_of c.args.web) (web_in c.args.web c.args.main.now))
    (ends_on (c.in_default.ensures shelf _)
    (ends_on does_plan (rw (planning_made c.args.web.scanned.now.store (files_of c.args.web) c.args.main.now _
    (rw c.store.ensures at c.in-Ok.ensures)) (c.depend_planned.ensures shelf))))

pub returns-in-Err-plan : goal.returns-in-Err-plan
returns-in-Err-plan g c = λ shelf.
    rw (depend_status_is c.args.targets (files_of c.args.web) (web_in c.args.web c.args.main.now))
    (ends_on (c.in_default.ensures shelf _) (unplanned_ends c.write_log.result
    c.args.web.scanned.now.store (files_of c.args.web) c.args.main.now c.args.targets _ c.in-Err-plan.fault
    (rw c.store.ensures at c.in-Err-plan.ensures)
    (rw (rw c.store-in-Err-plan.ensures at c.unplanned.ensures) at c.write_log.ensures) shelf _))
