use Rattle.cweb_tools.proofs.RunLaws.{leave_shelf}
use Rattle.cweb_tools.proofs.laws.every_run_leaves_the_shelf.Goals as goal

pub returns : goal.returns
returns c = record {
  tangle = λ world args before after status run. leave_shelf run;
  merge = λ world args before after status run. leave_shelf run;
  depend = λ world targets args before after status run. leave_shelf run;
}
