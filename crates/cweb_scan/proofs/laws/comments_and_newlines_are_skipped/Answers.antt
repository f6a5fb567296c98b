use Rattle.cweb_scan.proofs.PlainTokens.{comment_read, newline_read}
use Rattle.cweb_scan.proofs.laws.comments_and_newlines_are_skipped.Goals as goal

pub returns-clause-comments : goal.returns-clause-comments
returns-clause-comments c = comment_read

pub returns-clause-line_ends : goal.returns-clause-line_ends
returns-clause-line_ends c = newline_read
