use Rattle.cweb_tools.proofs.Common.{◌<◌, length, sym, ◌∙◌, arith, scanned_model, faults_of, files_of}
use Rattle.cweb_tools.proofs.Logging.{counted_all, none_said, some_said}
use Rattle.cweb_tools.proofs.web.say_faults.Goals as goal

pub returns-then-fault_count-eq0 : goal.returns-then-fault_count-eq0
returns-then-fault_count-eq0 g c = none_said (faults_of c.args.web) (sym (counted_all (files_of c.args.web)
    c.args.web.faults.now (scanned_model c.args.web.scanned.now)) ∙ sym c.fault_count.ensures.count
    ∙ c.if-fault_count-eq0.true)

pub returns : goal.returns
returns g c =
    let some : 0 < c.fault_count.result = omega (arith, c.if-fault_count-eq0.false) in
    let all : 0 < length (faults_of c.args.web) =
    omega (
      arith,
      counted_all (files_of c.args.web) c.args.web.faults.now (scanned_model c.args.web.scanned.now),
      c.fault_count.ensures.count,
      some,
    ) in
    some_said _ (faults_of c.args.web) all c.write_web_faults.ensures
