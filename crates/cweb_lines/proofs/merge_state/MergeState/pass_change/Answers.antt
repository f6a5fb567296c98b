use Rattle.cweb_lines.proofs.Common.{refl}
use Rattle.cweb_lines.proofs.NextLines.{change_none}
use Rattle.cweb_lines.proofs.merge_state.MergeState.pass_change.Goals as goal

pub returns-then-not-has_room : goal.returns-then-not-has_room
returns-then-not-has_room g c = change_none _ _ _ _ _ refl (λ is. cc)

pub returns-then-self-change : goal.returns-then-self-change
returns-then-self-change g c = change_none _ _ _ _ _ refl (λ is. cc)

pub returns-in-Done : goal.returns-in-Done
returns-in-Done g c = change_none _ _ _ _ _ refl (λ is. cc)
