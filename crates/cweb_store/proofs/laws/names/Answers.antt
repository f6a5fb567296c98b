use Rattle.cweb_store.proofs.LawLemmas.{abbreviations_stay, earlier_names_decide, full_names_resolve_to_themselves}
use Rattle.cweb_store.proofs.LawLemmas.{names_decide_resolutions}
use Rattle.cweb_store.proofs.NameLawLemmas.{abbreviations_begin_their_names, names_are_distinct, one_fault_for_no_name}
use Rattle.cweb_store.proofs.laws.names.Goals as goal

pub returns : goal.returns
returns c = record {
  names_are_distinct = names_are_distinct;
  full_names_resolve_to_themselves = full_names_resolve_to_themselves;
  abbreviations_begin_their_names = abbreviations_begin_their_names;
  abbreviations_stay = abbreviations_stay;
  earlier_names_decide = earlier_names_decide;
  names_decide_resolutions = names_decide_resolutions;
  one_fault_for_no_name = one_fault_for_no_name;
}
