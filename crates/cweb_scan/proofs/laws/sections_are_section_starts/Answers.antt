use Rattle.cweb_scan.proofs.CountedLexemes.{sections_are_section_starts}
use Rattle.cweb_scan.proofs.laws.sections_are_section_starts.Goals as goal

pub returns : goal.returns
returns c = sections_are_section_starts
