use Rattle.std.proofs.Common.{rules}
use Rattle.cweb_store.proofs.store.Store.macros.Goals as goal

pub returns-clause-ranges : goal.returns-clause-ranges
returns-clause-ranges c = search rules
