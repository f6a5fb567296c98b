use Rattle.cweb_store.proofs.Common.{take, get_or, refl, arith}
use Rattle.cweb_store.specs.declared.words.word.Word.{Word}
use Rattle.std.proofs.lemmas.List.{take_more}
use Rattle.cweb_store.proofs.words.table.link_all.Goals as goal

pub loop-word-preserved : goal.loop-word-preserved
loop-word-preserved c =
    let words = c.args.words.now in
    let k = c.loop-word.word-index in
    let d : Word = record { key = record { first = 0; last = 0 }; len = 0; number = 0 } in
    record {
      chains = rw (take_more words k d c.loop-word-test.true)
          (c.link.ensures.linked (take k words) (get_or words k d) refl c.loop-word.invariant.chains);
      buckets = omega (arith, c.link.ensures.buckets, c.loop-word.invariant.buckets);
      room = omega (arith, c.link.ensures.room, c.loop-word.invariant.room);
    }
