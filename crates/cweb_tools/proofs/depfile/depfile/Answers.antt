use Rattle.std.proofs.Common.{arith}
use Rattle.std.proofs.lemmas.List.Sums.{fold-append}
use Rattle.std.specs.Prelude.{Result, Ok, Err, IfOk}
use Rattle.cweb_tools.proofs.RuleWords.{lead_is}
use Rattle.cweb_tools.proofs.depfile.depfile.Goals as goal

if_ok : {A E : Type 0} (r : Result A E) (P Q : A → Type 0) → ((x : A) → P x → Q x) → IfOk r P → IfOk r Q
if_ok (Ok x) P Q on holds = on x holds
if_ok (Err e) P Q on holds = tt

pub returns : goal.returns
returns c = grind (arith, fold-append, lead_is, if_ok)
