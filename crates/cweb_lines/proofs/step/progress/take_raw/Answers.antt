use Rattle.cweb_lines.proofs.Common.{rules, refl}
use Rattle.cweb_lines.proofs.NoReadFails.{reads_of}
use Rattle.cweb_lines.proofs.ReportsOnlyGrow.{reported_same}
use Rattle.cweb_lines.proofs.step.progress.take_raw.Goals as goal

pub returns-clause-takes : goal.returns-clause-takes
returns-clause-takes g c =
    let takes = c.take_above.ensures.takes in
    record {
      reads = reads_of c.take_above.result takes.reads (λ seen it known.
          let named = takes.named seen it _ known.texts in
          (record { change = known.change; texts = named.0 }, named.1)) (reported_same _ _ refl refl);
      answers = search rules;
      only = search rules;
    }
