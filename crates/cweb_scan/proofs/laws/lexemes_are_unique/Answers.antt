use Rattle.cweb_scan.proofs.LexemesAreUnique.{ArePieces-unique, are_pieces}
use Rattle.cweb_scan.proofs.laws.lexemes_are_unique.Goals as goal

pub returns-clause-only : goal.returns-clause-only
returns-clause-only c = ArePieces-unique

pub returns-clause-are : goal.returns-clause-are
returns-clause-are c = are_pieces
