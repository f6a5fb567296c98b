use Rattle.cweb_tools.proofs.Common.{refl, arith, files_of, options_of}
use Rattle.std.specs.Prelude.{string_bytes}
use Rattle.cweb_tools.specs.inner.Tangle.{web_in}
use Rattle.cweb_tools.proofs.Doing.{does_in, ends_on, log_counted, does_plan, log_halts}
use Rattle.cweb_tools.proofs.Refusals.{planning_made}
use Rattle.cweb_tools.proofs.Statuses.{web_status_is}
use Rattle.cweb_tools.proofs.tangle.tangle_web.Goals as goal

pub returns-in-Err : goal.returns-in-Err
returns-in-Err g c = λ shelf.
    log_halts (does_in _ ((rw (c.as_slice.ensures.value, c.shown-shown.ensures) at c.in-Err.ensures) shelf _)) refl

pub say_faults-requires : goal.say_faults-requires
say_faults-requires g c = omega (arith, log_counted c.in_default.ensures, c.requires.counts.log)

pub returns-in-Err-say_faults : goal.returns-in-Err-say_faults
returns-in-Err-say_faults g c = λ shelf.
    ends_on ((rw (c.as_slice.ensures.value, c.shown-shown.ensures) at c.in_default.ensures) shelf _)
    (log_halts (does_in _ (c.in-Err-say_faults.ensures shelf _)) refl)

pub tangle_planned-requires-clause-counts : goal.tangle_planned-requires-clause-counts
tangle_planned-requires-clause-counts g c = record {
  out = c.requires.counts.out;
  log =
      omega (
        arith,
        log_counted c.in_default.ensures,
        log_counted c.in_default-say_faults.ensures,
        c.requires.counts.log,
      );
}

pub tangle_unplanned-requires-clause-count : goal.tangle_unplanned-requires-clause-count
tangle_unplanned-requires-clause-count g c =
    omega (arith, log_counted c.in_default.ensures, log_counted c.in_default-say_faults.ensures, c.requires.counts.log)

pub returns-in-Ok : goal.returns-in-Ok
returns-in-Ok g c = λ shelf.
    rw (web_status_is
    (options_of c.args.options.now).shown (web_in c.args.web (string_bytes c.args.options.now.main)))
    (ends_on ((rw (c.as_slice.ensures.value, c.shown-shown.ensures) at c.in_default.ensures) shelf _) (ends_on
    (c.in_default-say_faults.ensures shelf _) (ends_on does_plan (rw (planning_made c.args.web.scanned.now.store
    (files_of c.args.web) (string_bytes c.args.options.now.main) _
    (rw (c.store.ensures, c.as_str-main.ensures.value) at c.in-Ok.ensures))
    ((rw c.shown-shown.ensures at c.tangle_planned.ensures) shelf)))))

pub returns-in-Err-plan : goal.returns-in-Err-plan
returns-in-Err-plan g c = λ shelf.
    rw (web_status_is
    (options_of c.args.options.now).shown (web_in c.args.web (string_bytes c.args.options.now.main)))
    (ends_on ((rw (c.as_slice.ensures.value, c.shown-shown.ensures) at c.in_default.ensures) shelf _)
    (ends_on (c.in_default-say_faults.ensures shelf _)
    ((rw (c.as_str-main.ensures.value, c.shown-shown.ensures) at c.tangle_unplanned.ensures.closes) shelf _)))
