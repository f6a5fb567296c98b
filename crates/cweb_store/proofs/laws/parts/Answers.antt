use Rattle.cweb_store.proofs.LawLemmas.{joining_concatenates}
use Rattle.cweb_store.proofs.LayoutLawLemmas.{only_layout_is_dropped}
use Rattle.cweb_store.proofs.TokenLawLemmas.{tokens_are_those_pushed}
use Rattle.cweb_store.proofs.laws.parts.Goals as goal

pub returns : goal.returns
returns c = record {
  tokens_are_those_pushed = tokens_are_those_pushed;
  joining_concatenates = joining_concatenates;
  only_layout_is_dropped = only_layout_is_dropped;
}
