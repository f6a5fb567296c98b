use Rattle.cweb_out.proofs.ApartTable.{apart_known}
use Rattle.cweb_out.proofs.printer.edges.edge_is_apart.Goals as goal

pub returns : goal.returns
returns c = apart_known c.args.left c.args.right
