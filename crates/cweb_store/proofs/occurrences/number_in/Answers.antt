use Rattle.cweb_store.proofs.Common.{◌∙◌, ap, sym, slice_get}
use Rattle.cweb_store.proofs.PositionLemmas.{IsNumbered, number-recorded, position-inserted, positions-kept}
use Rattle.cweb_store.proofs.occurrences.number_in.Goals as goal
use Rattle.cweb_store.proofs.occurrences.number_in.Goals.{In-Some}

recorded : (c : In-Some) → IsNumbered c.args.names.now.keys c.args.occurrence c.in-Some.id
recorded c = number-recorded c.args.names.now.keys c.args.positions.now.items c.args.occurrence c.get-spelling.result
    c.in-Some.id c.requires.positions c.in-Full.is c.get-spelling.ensures
    (ap (λ ps. slice_get ps c.get-spelling.result) (sym c.deref.ensures.value) ∙ c.in-Some.ensures)

pub returns-in-Some-clause-number : goal.returns-in-Some-clause-number
returns-in-Some-clause-number c = sym (recorded (goal.at.returns-in-Some-clause-number c).In-Some).number

pub returns-in-Some-clause-names : goal.returns-in-Some-clause-names
returns-in-Some-clause-names c = sym (recorded (goal.at.returns-in-Some-clause-names c).In-Some).same

pub returns-in_ok-number-in-Full-clause-positions : goal.returns-in_ok-number-in-Full-clause-positions
returns-in_ok-number-in-Full-clause-positions c =
    let s = c.get-spelling.result in
    let numbers = c.args.names.now.keys in
    rw c.in_ok-number-in-Full.ensures.keys
    (c.record_position.ensures _ (positions-kept numbers s c.args.positions.now.items c.requires.positions)
    (position-inserted numbers s _ (sym c.in_ok-number-in-Full.ensures.index)))
