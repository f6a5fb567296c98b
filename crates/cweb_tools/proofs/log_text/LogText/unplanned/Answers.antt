use Rattle.std.proofs.Common.{rules}
use Rattle.cweb_tools.proofs.log_text.LogText.unplanned.Goals as goal

pub returns-in-BadName : goal.returns-in-BadName
returns-in-BadName c = search rules
