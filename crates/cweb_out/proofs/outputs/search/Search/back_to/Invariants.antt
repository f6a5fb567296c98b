use Rattle.cweb_out.proofs.Common.{◌≡◌, take, path_of}
use Rattle.cweb_out.proofs.Walks.{from_first}
use Rattle.cweb_out.proofs.outputs.search.Search.back_to.Given as goal

abbrev pub invariant-path : goal.invariant-path
invariant-path l = l.cycle.items ≡ from_first l.again (path_of (take l.waiting-index l.self.waiting.items))
