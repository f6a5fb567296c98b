use Rattle.cweb_scan.proofs.PlainTokens.{token_read}
use Rattle.cweb_scan.proofs.laws.tokens_are_read_again.Goals as goal

pub returns : goal.returns
returns c = λ joins r token rest all plain alone hash seam. token_read joins r token rest all plain alone hash seam
