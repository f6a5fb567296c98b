use Rattle.cweb_scan.proofs.CountedLexemes.{occurrences_are_lexemes}
use Rattle.cweb_scan.proofs.laws.occurrences_are_lexemes.Goals as goal

pub returns : goal.returns
returns c = occurrences_are_lexemes
