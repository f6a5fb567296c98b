use Rattle.cweb_tools.proofs.Common.{rules, arith, common_steps}
use Rattle.cweb_tools.proofs.Prints.{end_failed, next_named, on_err, prints_all, prints_prefix, prints_more, prints_until}
use Rattle.cweb_tools.proofs.outputs.print_all.Goals as goal

pub append-requires-in-tokens-clause-named : goal.append-requires-in-tokens-clause-named
append-requires-in-tokens-clause-named g c = next_named (prints_prefix {now = c.append.new.self} c.tokens.invariant
    (record { store = c.append.ensures.store; plan = c.append.ensures.plan; valid = c.append.ensures.valid })
    c.append.ensures.setting c.append.ensures.prints) _ _ c.requires.left c.in-Some.ensures.yields

pub append-requires-in-tokens-clause-count : goal.append-requires-in-tokens-clause-count
append-requires-in-tokens-clause-count g c = grind arith

pub finish-requires : goal.finish-requires
finish-requires g c = grind arith

pub returns-in_err-append-clause-err : goal.returns-in_err-append-clause-err
returns-in_err-append-clause-err g c = grind (arith, on_err, prints_until, prints_prefix)

pub returns-clause-prints : goal.returns-clause-prints
returns-clause-prints g c = prints_all _ c.finish.new.buffer.bytes c.finish.result
    (prints_prefix {now = c.append.new.self} c.tokens.invariant
    (record { store = c.append.ensures.store; plan = c.append.ensures.plan; valid = c.append.ensures.valid })
    c.append.ensures.setting c.append.ensures.prints)
    c.in_default.ensures.yields.0 c.finish.ensures.ends c.finish.ensures.empty

pub returns-clause-err : goal.returns-clause-err
returns-clause-err g c = grind (arith, end_failed, prints_prefix)

pub tokens-preserved : goal.tokens-preserved
tokens-preserved g c =
    let added = c.in_ok-append.ensures in
    prints_more _ _ _ _ (prints_prefix {now = c.append.new.self} c.tokens.invariant
    (record { store = c.append.ensures.store; plan = c.append.ensures.plan; valid = c.append.ensures.valid })
    c.append.ensures.setting c.append.ensures.prints)
    (record { store = c.next.ensures.store; plan = c.next.ensures.plan; valid = c.next.ensures.valid })
    c.in-Some.ensures.yields added.setting added.moves added.prints

pub tokens-init : goal.tokens-init
tokens-init g c = search rules

pub tokens-smaller : goal.tokens-smaller
tokens-smaller g c = grind (arith, common_steps)
