use Rattle.std.proofs.Common.{◌∙◌, sym}
use Rattle.cweb_system_tests.proofs.Layouts.{value_found, value_passed}
use Rattle.cweb_system_tests.proofs.memory_folder.layout.first_of.Goals as goal

pub returns-then-eq : goal.returns-then-eq
returns-then-eq g c = sym (c.loop-fact.invariant ∙ value_found c.args.facts.now c.loop-fact.fact-index
    c.fact-item.result c.args.path.now c.loop-fact-test.true c.fact-item.is
    (cc (c.if-eq.true, c.eq.ensures, c.as_str.ensures.value)))

pub loop-fact-preserved : goal.loop-fact-preserved
loop-fact-preserved g c = c.loop-fact.invariant ∙ value_passed c.args.facts.now c.loop-fact.fact-index
    c.fact-item.result c.args.path.now c.loop-fact-test.true c.fact-item.is
    (cc (c.if-eq.false, c.eq.ensures, c.as_str.ensures.value))
