use Rattle.cweb_tools.proofs.Common.{◌≡◌, refl, ◌∙◌, ap, arith, ◌==◌, if◌then◌else◌, ℕ, List, reserves, files_of, plan_made, dependencies}
use Rattle.cweb_tools.proofs.Doing.{does_in, ends_done, ends_halted, ends_on, log_counted, does_reserve, log_halts, memory_halts, printed_prefix, printed_whole}
use Rattle.cweb_tools.proofs.Targets.{target_names_among}
use Rattle.cweb_tools.proofs.wdep.depend_planned.Goals as goal

pub returns-in-Err : goal.returns-in-Err
returns-in-Err g c = λ shelf. log_halts (does_in _ ((rw c.no_text.ensures at c.in-Err.ensures) shelf _)) refl

pub log_stop-requires : goal.log_stop-requires
log_stop-requires g c = omega (arith, log_counted c.in_default.ensures, c.requires.counts.log)

pub returns-in_default-depfile : goal.returns-in_default-depfile
returns-in_default-depfile g c = λ shelf. ends_on ((rw c.no_text.ensures at c.in_default.ensures) shelf _)
    (memory_halts reserves _ refl c.log_stop.ensures.logs c.log_stop.ensures.status)

pub log_stop-requires-in-Err-write_all : goal.log_stop-requires-in-Err-write_all
log_stop-requires-in-Err-write_all g c = omega (arith, log_counted c.in_default.ensures, c.requires.counts.log)

pub returns-in-Err-write_all : goal.returns-in-Err-write_all
returns-in-Err-write_all g c =
    let files : List (List ℕ) = files_of c.args.web in
    let text : c.as_slice.result.now
    ≡ dependencies c.args.targets files (plan_made c.args.web.scanned.now.store files c.args.plan.now) =
    grind (arith, target_names_among) in
    λ shelf. ends_on ((rw c.no_text.ensures at c.in_default.ensures) shelf _) (ends_on does_reserve
    (ends_halted (rw text at (printed_prefix c.in-Err-write_all.ensures.wrote) shelf _)
    (record { others = refl; log = c.log_stop-in-Err-write_all.ensures.logs })
    c.log_stop-in-Err-write_all.ensures.status))

pub returns : goal.returns
returns g c =
    let files : List (List ℕ) = files_of c.args.web in
    let text : c.as_slice.result.now
    ≡ dependencies c.args.targets files (plan_made c.args.web.scanned.now.store files c.args.plan.now) =
    grind (arith, target_names_among) in
    λ shelf. ends_on ((rw c.no_text.ensures at c.in_default.ensures) shelf _) (ends_on does_reserve
    (ends_done (rw text at (printed_whole _ (g.W.Sink.model c.args.out.now)
    c.in_default-write_all.ensures.wrote) shelf _)
    (c.status.ensures ∙ ap (λ (n : ℕ). if n == 0 then 0 else 1) c.fault_count.ensures.count)))
