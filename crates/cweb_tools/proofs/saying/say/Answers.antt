use Rattle.cweb_tools.proofs.Logging.{said_not, said_when}
use Rattle.cweb_tools.proofs.saying.say.Goals as goal

pub returns : goal.returns
returns g c = said_when _ _ _ c.if-not-wanted.false c.write_log.ensures

pub returns-then-not-wanted : goal.returns-then-not-wanted
returns-then-not-wanted g c = said_not _ _ c.if-not-wanted.true
