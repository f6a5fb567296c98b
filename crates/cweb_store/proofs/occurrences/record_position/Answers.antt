use Rattle.cweb_store.proofs.PositionLemmas.{positions-set}
use Rattle.cweb_store.proofs.occurrences.record_position.Goals as goal

pub returns-then-place-len : goal.returns-then-place-len
returns-then-place-len c = λ numbers are is.
    positions-set numbers c.args.positions.now.items c.args.number c.args.at are is
