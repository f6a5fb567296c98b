use Rattle.cweb_tools.proofs.Common.{refl, ◌∙◌, ap, arith, ◌==◌, if◌then◌else◌, ℕ, Ok, Err, reserves}
use Rattle.cweb_tools.proofs.Doing.{does_in, ends_done, ends_halted, ends_on, log_counted, logs_counted, does_reserve, log_halts, memory_halts, stop_counted}
use Rattle.cweb_tools.proofs.ReadyExpanders.{all_on}
use Rattle.cweb_tools.proofs.tangle.tangle_planned.Goals as goal

pub returns-in-Err : goal.returns-in-Err
returns-in-Err g c = λ shelf. log_halts (does_in _ (c.in-Err.ensures shelf _)) refl

pub log_stop-requires : goal.log_stop-requires
log_stop-requires g c = omega (arith, log_counted c.in_default.ensures, c.requires.counts.log)

pub returns-in_default-new : goal.returns-in_default-new
returns-in_default-new g c = λ shelf. ends_on (c.in_default.ensures shelf _)
    (memory_halts reserves _ refl c.log_stop.ensures.logs c.log_stop.ensures.status)

pub log_stop-requires-in_default-new-2 : goal.log_stop-requires-in_default-new-2
log_stop-requires-in_default-new-2 g c = omega (arith, log_counted c.in_default.ensures, c.requires.counts.log)

pub returns-in_default-new-2 : goal.returns-in_default-new-2
returns-in_default-new-2 g c = λ shelf. ends_on (c.in_default.ensures shelf _) (memory_halts
    reserves _ refl c.log_stop-in_default-new-2.ensures.logs c.log_stop-in_default-new-2.ensures.status)

pub write_outputs-requires-clause-counts : goal.write_outputs-requires-clause-counts
write_outputs-requires-clause-counts g c = record {
  out = c.requires.counts.out;
  log = omega (arith, log_counted c.in_default.ensures, c.requires.counts.log);
}

pub log_failed-requires : goal.log_failed-requires
log_failed-requires g c = λ never.
    omega (
      arith,
      log_counted c.in_default.ensures,
      stop_counted c.in-Err-write_outputs.failed.stop never c.in-Err-write_outputs.ensures.does,
      c.requires.counts.log,
    )

pub returns-in-Err-write_outputs : goal.returns-in-Err-write_outputs
returns-in-Err-write_outputs g c = λ shelf. ends_on (c.in_default.ensures shelf _) (ends_on does_reserve
    (ends_halted (does_in _
    (all_on c.args.shown.progress c.args.web.names.now c.in-Ok.expander (Err c.in-Err-write_outputs.failed)
    c.in-Ok.ensures.store c.store.ensures c.in-Ok.ensures.plan c.in-Err-write_outputs.ensures.does shelf))
    (record { others = refl; log = rw c.output_name.ensures at c.log_failed.ensures.logs })
    c.log_failed.ensures.status))

pub say_end-requires : goal.say_end-requires
say_end-requires g c =
    omega (
      arith,
      log_counted c.in_default.ensures,
      logs_counted c.in_default-write_outputs.ensures.does,
      c.requires.counts.log,
    )

pub returns-in-Err-say_end : goal.returns-in-Err-say_end
returns-in-Err-say_end g c = λ shelf. ends_on (c.in_default.ensures shelf _) (ends_on does_reserve (ends_on
    (all_on c.args.shown.progress c.args.web.names.now c.in-Ok.expander (Ok tt) c.in-Ok.ensures.store c.store.ensures
    c.in-Ok.ensures.plan c.in_default-write_outputs.ensures.does shelf) (log_halts ((rw (
      c.fault_count-count.ensures.count,
      c.no_text.ensures,
    ) at c.in-Err-say_end.ensures) shelf _) refl)))

pub returns : goal.returns
returns g c = λ shelf. ends_on (c.in_default.ensures shelf _) (ends_on does_reserve (ends_on
    (all_on c.args.shown.progress c.args.web.names.now c.in-Ok.expander (Ok tt) c.in-Ok.ensures.store c.store.ensures
    c.in-Ok.ensures.plan c.in_default-write_outputs.ensures.does shelf) (ends_done ((rw (
      c.fault_count-count.ensures.count,
      c.no_text.ensures,
    ) at c.in_default-say_end.ensures) shelf _)
    (c.status.ensures ∙ ap (λ (n : ℕ). if n == 0 then 0 else 1) c.fault_count-count.ensures.count))))
