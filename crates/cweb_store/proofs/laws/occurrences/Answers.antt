use Rattle.cweb_store.proofs.FileLawLemmas.{files_are_names_of_occurrences}
use Rattle.cweb_store.proofs.LawLemmas.{occurrences_are_those_of_calls}
use Rattle.cweb_store.proofs.laws.occurrences.Goals as goal

pub returns : goal.returns
returns c = record {
  are_those_of_calls = occurrences_are_those_of_calls;
  yield_the_file_names = files_are_names_of_occurrences;
}
