use Rattle.std.proofs.Common.{rules}
use Rattle.cweb_scan.proofs.Common.{sym, subst, arith, Contents, IsTied}
use Rattle.cweb_scan.proofs.TiedSteps.{tied_dropped}
use Rattle.cweb_store.proofs.CallerLemmas.{token_count_dropped}
use Rattle.cweb_scan.proofs.scanner.Scanner.join.Goals as goal

pub invariant_of-self : goal.invariant_of-self
invariant_of-self c =
    let s = c.self.inside in
    subst (λ (v : Contents). IsTied s.solid s.solid s.context v.parts.current) (sym c.drop_layout.ensures.contents)
    (tied_dropped s.directive s.solid s.context s.builder.contents.parts.current c.self.invariant)

pub emit-requires-clause-few : goal.emit-requires-clause-few
emit-requires-clause-few c = grind (arith, token_count_dropped)

pub returns : goal.returns
returns c = search rules
