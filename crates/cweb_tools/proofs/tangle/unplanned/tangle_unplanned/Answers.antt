use Rattle.cweb_tools.proofs.Common.{List, ℕ, Act, SinkModel, FailedReads, RunEnds, EndsInLog, at, refl, Err, Ok, items_of, plans, files_of}
use Rattle.cweb_tools.proofs.Doing.{does_in, ends_on, does_plan, ends_reported, log_halts, memory_halts}
use Rattle.cweb_tools.proofs.Refusals.{IsRefused, each_some, of_some, planning_refused, refusal_said, refused_by}
use Rattle.cweb_tools.proofs.tangle.unplanned.tangle_unplanned.Goals as goal

in_log : {acts : List Act} {expected status : ℕ} {old new : SinkModel} → ((shelf : FailedReads) (out : SinkModel)
    → RunEnds acts expected (at shelf out old) (at shelf out new) status) → EndsInLog acts expected old new status
in_log ends = ends

pub returns-in-Memory-clause-closes : goal.returns-in-Memory-clause-closes
returns-in-Memory-clause-closes g c = λ shelf bins.
    memory_halts plans _ refl c.log_stop.ensures.logs c.log_stop.ensures.status

pub returns-in-Err-clause-logged : goal.returns-in-Err-clause-logged
returns-in-Err-clause-logged g c = each_some _ _ (λ r is. in_log (λ shelf out. log_halts (does_in _
    (refusal_said {A = Unit {0}} {E = Unit {0}} (Err tt)
    c.args.web.scanned.now.store c.args.main.now c.args.fault r (items_of c.unplanned.result) is
    (rw c.store.ensures at c.unplanned.ensures) c.in-Err.ensures shelf out)) refl))

pub returns-in-Err-clause-closes : goal.returns-in-Err-clause-closes
returns-in-Err-clause-closes g c =
    let why : IsRefused c.args.web.scanned.now.store c.args.main.now c.args.fault =
    refused_by c.args.fault c.requires.expected c.in_default.not-Memory in λ shelf bins. ends_on does_plan
    (rw (planning_refused c.args.web.scanned.now.store (files_of c.args.web) c.args.main.now why.refusal why.expected)
    (of_some _ why.refusal _ why.is_refusal (returns-in-Err-clause-logged g c) shelf bins))

pub returns-clause-logged : goal.returns-clause-logged
returns-clause-logged g c = each_some _ _ (λ r is. in_log (λ shelf out. ends_on
    (refusal_said {A = Unit {0}} {E = Unit {0}} (Ok tt)
    c.args.web.scanned.now.store c.args.main.now c.args.fault r (items_of c.unplanned.result) is
    (rw c.store.ensures at c.unplanned.ensures) c.in_default-write_log.ensures shelf out)
    (ends_reported c.say_end.result (rw c.fault_count-count.ensures.count at c.say_end.ensures) refl refl shelf out)))

pub returns-clause-closes : goal.returns-clause-closes
returns-clause-closes g c =
    let why : IsRefused c.args.web.scanned.now.store c.args.main.now c.args.fault =
    refused_by c.args.fault c.requires.expected c.in_default.not-Memory in λ shelf bins. ends_on does_plan
    (rw (planning_refused c.args.web.scanned.now.store (files_of c.args.web) c.args.main.now why.refusal why.expected)
    (of_some _ why.refusal _ why.is_refusal (returns-clause-logged g c) shelf bins))
