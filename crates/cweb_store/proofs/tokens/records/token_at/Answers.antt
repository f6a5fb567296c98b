use Rattle.cweb_store.proofs.Common.{◌∙◌, ap, arith, length, sym, Some, slice_get-map, slice_get-get_or}
use Rattle.cweb_store.proofs.RecordLemmas.{record-at}
use Rattle.cweb_store.proofs.tokens.records.token_at.Goals as goal

pub token_of_record-requires : goal.token_of_record-requires
token_of_record-requires c =
    let rs = c.args.records.now in
    let both = record-at (length c.args.strings.now) 0 (length c.args.places.now) rs c.args.number _ c.requires.records
    (slice_get-get_or rs c.args.number _ c.requires.within ∙ ap Some (sym c.index-records-number.is)) in
    record { string = both.0; place = both.1 }

pub returns : goal.returns
returns c = grind (arith, slice_get-map, slice_get-get_or)
