use Rattle.cweb_tools.proofs.Common.{arith}
use Rattle.cweb_tools.proofs.Logging.{said_starred, some_by}
use Rattle.cweb_tools.proofs.saying.say_starred.Goals as goal

pub returns : goal.returns
returns g c = grind (arith, said_starred, some_by)
