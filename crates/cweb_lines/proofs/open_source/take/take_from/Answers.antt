use Rattle.cweb_lines.proofs.Common.{[], refl, rules}
use Rattle.cweb_lines.proofs.open_source.take.take_from.Goals as goal

pub returns-in-None-clause-takes : goal.returns-in-None-clause-takes
returns-in-None-clause-takes g c = record {
  reads = (λ file. [], refl);
  taken = search rules;
  stops = λ seen is. tt;
  needed = tt;
  named = λ seen is names each. (each, refl);
  text = search rules;
  answers = search rules;
}
