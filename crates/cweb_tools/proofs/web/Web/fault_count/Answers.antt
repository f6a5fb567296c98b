use Rattle.cweb_tools.proofs.Common.{length, ap, arith, scanned_model, files_of}
use Rattle.cweb_tools.proofs.Logging.{all_counted}
use Rattle.cweb_tools.proofs.web.Web.fault_count.Goals as goal

pub returns-clause-count : goal.returns-clause-count
returns-clause-count c =
    omega (
      arith,
      all_counted (files_of c.args.self) c.args.self.faults.now (scanned_model c.args.self.scanned.now),
      c.len-of_text.ensures,
      ap length c.name_faults.ensures.faults,
    )
