use Rattle.cweb_out.proofs.Common.{None, sum_by, PathBegins, Chain, MarksFitPath, marks_left}
use Rattle.cweb_out.proofs.outputs.search.Search.settle.Given as goal

abbrev pub invariant-names : goal.invariant-names
invariant-names l = record {
  fits : MarksFitPath l.store l.self.marks.items l.self.waiting.items;
  chain : Chain l.store l.self.waiting.items None;
  begins : PathBegins l.store l.self.waiting.items l.fn.name;
}

abbrev pub decreases-names : goal.decreases-names
decreases-names l = sum_by marks_left l.self.marks.items
