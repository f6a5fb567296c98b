use Rattle.cweb_lines.proofs.Common.{rules, refl}
use Rattle.cweb_lines.proofs.NoReadFails.{reads_of}
use Rattle.cweb_lines.proofs.ReportsOnlyGrow.{reported_same}
use Rattle.cweb_lines.proofs.step.progress.take_change.Goals as goal

pub returns-clause-takes : goal.returns-clause-takes
returns-clause-takes g c =
    let takes = c.take_from.ensures.takes in
    record {
      reads = reads_of c.take_from.result takes.reads (λ seen it known.
          let named = takes.named seen it _ known.change in
          (record { change = named.0; texts = known.texts }, named.1)) (reported_same _ _ refl refl);
      answers = search rules;
      only = search rules;
    }
