use Rattle.cweb_store.proofs.Common.{rules}
use Rattle.std.proofs.Common.{ltb}
use Rattle.std.proofs.lemmas.List.Sorted.{IsPartitionPoint-from_clause, IsPartitionedBy-ltb}
use Rattle.cweb_store.proofs.TokenIndexLemmas.{point-is}
use Rattle.cweb_store.proofs.tokens.token_index.count_below.Goals as goal

pub returns-clause-count : goal.returns-clause-count
returns-clause-count c = λ rise.
    let bound = c.args.bound in
    let parted = IsPartitionedBy-ltb (λ x. x) c.args.numbers.now bound rise in
    let point = IsPartitionPoint-from_clause (λ x. ltb x bound) c.args.numbers.now
    c.partition_point.result c.partition_point.ensures.partitioned parted (λ a r q k. search rules) in
    point-is c.args.numbers.now bound c.partition_point.result c.partition_point.ensures.bound point
