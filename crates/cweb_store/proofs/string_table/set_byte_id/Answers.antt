use Rattle.cweb_store.proofs.ByteIdLemmas.{byte_ids-set}
use Rattle.cweb_store.proofs.string_table.set_byte_id.Goals as goal

pub returns-then-number-lt4294967295-clause-byte_ids : goal.returns-then-number-lt4294967295-clause-byte_ids
returns-then-number-lt4294967295-clause-byte_ids c = λ kept are is.
    byte_ids-set kept c.args.byte_ids.now.items c.args.byte c.args.number are is
