use Rattle.cweb_store.proofs.Common.{◌≡◌, length, ap, arith, length-map, token_of_record, tokens_of, token_model, IsTokenIndex, subst, sym}
use Rattle.cweb_store.proofs.RecordLemmas.{push-tokens, records-few}
use Rattle.cweb_store.proofs.TokenStringLemmas.{push-are, strings-few}
use Rattle.cweb_store.proofs.TokenIndexLemmas.{index-push}
use Rattle.cweb_store.proofs.tokens.list.TokenList.push.Goals as goal

pub record_of-requires-clause-few : goal.record_of-requires-clause-few
record_of-requires-clause-few c = grind (arith, records-few, length-map)

pub record_of-requires-clause-few_texts : goal.record_of-requires-clause-few_texts
record_of-requires-clause-few_texts c = grind (arith, strings-few)

pub invariant_of-self-2 : goal.invariant_of-self-2
invariant_of-self-2 c =
    let s = c.self.inside in
    let t = token_model c.args.token in
    let r = c.in_ok-record.record in
    let put = c.in_ok-record.ensures in
    let places = c.record_of.new.places.items in
    let all = c.self.invariant.tokens in
    let count : c.len-number.result ≡ length (tokens_of s.strings.strings s.places.items s.records.items) =
    omega (
      arith,
      c.len-number.ensures,
      ap length c.in_ok-reserve.ensures.items,
      length-map s.records.items (token_of_record s.strings.strings s.places.items),
    ) in
    rw (c.push_reserved.ensures.items, c.in_ok-reserve.ensures.items)
    (record {
      tokens = push-are s.strings c.record_of.new.strings s.places.items places s.records.items t r all put.packs
          put.placed;
      index = subst (IsTokenIndex c.record_of.new.token_index) (sym (push-tokens s.strings c.record_of.new.strings
          s.places.items places s.records.items t r all.numbers put.packs put.placed))
          (index-push s.token_index c.record_of.new.token_index c.len-number.result
          (tokens_of s.strings.strings s.places.items s.records.items) t c.self.invariant.index count put.indexed);
    })

pub returns-clause-ok : goal.returns-clause-ok
returns-clause-ok c = grind (arith, push-tokens)
