use Rattle.cweb_store.proofs.Common.{◌<◌, arith, length, length-map, slice_get-map, slice_get-get_or}
use Rattle.cweb_store.proofs.RecordLemmas.{record-at}
use Rattle.cweb_store.proofs.tokens.token_reader.TokenReader.direct.Goals as goal

pub direct-requires : goal.direct-requires
direct-requires c =
    let s = c.self.inside in
    let within : c.args.number < length s.records.now =
    grind (arith, length-map) in
    (record-at (length s.strings) 0 c.self.invariant.0 s.records.now c.args.number _ c.self.invariant.1
    (slice_get-get_or s.records.now c.args.number _ within)).0

pub returns : goal.returns
returns c = grind (arith, length-map, slice_get-map, slice_get-get_or)
