use Rattle.cweb_lines.proofs.Common.{rules, arith, same_error}
use Rattle.cweb_lines.proofs.NoReadFails.{quiet_same}
use Rattle.cweb_lines.proofs.Turns.{sought_yields, sought_stops, sought_tells}
use Rattle.cweb_lines.proofs.step.turning.take_turn.Goals as goal

pub returns-in_err-seek-clause-turn : goal.returns-in_err-seek-clause-turn
returns-in_err-seek-clause-turn g c = grind (arith, same_error, sought_stops, sought_tells)

pub returns-in-Seeking-clause-turn : goal.returns-in-Seeking-clause-turn
returns-in-Seeking-clause-turn g c = grind (arith, sought_yields)

pub returns-then-has_ended-clause-turn : goal.returns-then-has_ended-clause-turn
returns-then-has_ended-clause-turn g c =
    record { reads = quiet_same _ _; turns = search rules; yields = search rules; stops = search rules }
