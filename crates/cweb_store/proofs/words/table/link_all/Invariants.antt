use Rattle.cweb_store.proofs.Common.{◌≤◌, ◌<◌, length, take, AreChains}
use Rattle.std.specs.Prelude.{vec_capacity}
use Rattle.cweb_store.proofs.words.table.link_all.Given as goal

abbrev pub invariant-loop-word : goal.invariant-loop-word
invariant-loop-word l = record {
  chains : AreChains (take l.word-index l.words) l.heads.items l.nexts.items;
  buckets : 0 < length l.heads.items;
  room : length l.words ≤ vec_capacity l.nexts;
}
