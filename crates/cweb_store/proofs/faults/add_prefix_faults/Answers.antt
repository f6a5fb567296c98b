use Rattle.cweb_store.proofs.Common.{◌≡◌, ◌∙◌, ◌++◌, false, length, arith, ◌<◌, sym, ap, append-nil, list_any, PrefixOfAnother, is_prefix_of_another, spellings}
use Rattle.cweb_store.proofs.FaultLemmas.{faults-step, faults-none}
use Rattle.cweb_store.proofs.faults.add_prefix_faults.Goals as goal

pub loop-number-preserved : goal.loop-number-preserved
loop-number-preserved c =
    let ns = c.args.names.now.names in
    let within : c.loop-number.number < length ns = omega (arith, c.loop-number-test.true, c.len-number-end.ensures) in
    faults-step PrefixOfAnother (λ n text. is_prefix_of_another ns text) ns c.loop-number.number
    c.is_prefix-fails.result
    c.first.result c.loop-number.faults.items c.add_fault_if.new.faults.items within c.is_prefix-fails.ensures
    c.first.ensures c.in_ok-add_fault_if.ensures
    ∙ c.loop-number.invariant

pub returns-then-not-has_prefix : goal.returns-then-not-has_prefix
returns-then-not-has_prefix c =
    let ns = c.args.names.now.names in
    let old = c.args.faults.now.items in
    let none : list_any (is_prefix_of_another ns) (spellings ns) ≡ false = sym c.has_prefix.ensures
    ∙ c.if-not-has_prefix.true in
    sym (append-nil old) ∙ ap (λ fs. old ++ fs) (sym (faults-none PrefixOfAnother (is_prefix_of_another ns) 0 ns none))
