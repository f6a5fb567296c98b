use Rattle.cweb_rules.proofs.Comments.{comment_prefix}
use Rattle.cweb_rules.proofs.laws.comments_end_by_themselves.Goals as goal

pub returns : goal.returns
returns c = comment_prefix
