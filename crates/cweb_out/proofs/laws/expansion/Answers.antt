use Rattle.cweb_out.proofs.Common.{names}
use Rattle.cweb_out.proofs.LawLemmas.{depth_changes_nothing, frame_stacks_are_ranked, replaces_uses}
use Rattle.cweb_out.proofs.Ranks.{rank_below_names}
use Rattle.cweb_out.proofs.laws.expansion.Goals as goal

pub returns : goal.returns
returns c = record {
  replaces_uses_alone = λ w k. replaces_uses;
  ranks_are_below_the_names = λ w n l. (λ h. (names w, h), λ h. rank_below_names w h.0 n l h.1);
  same_above_the_rank = depth_changes_nothing;
  frame_stacks_are_ranked = frame_stacks_are_ranked;
}
