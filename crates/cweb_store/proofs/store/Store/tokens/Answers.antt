use Rattle.std.proofs.Common.{rules}
use Rattle.cweb_store.proofs.store.Store.tokens.Goals as goal

pub returns-clause-count : goal.returns-clause-count
returns-clause-count c = search rules
