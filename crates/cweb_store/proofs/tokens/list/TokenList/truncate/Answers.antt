use Rattle.cweb_store.proofs.Common.{◌≡◌, length, take, drop, sym, subst, ◌∙◌, ap, filter, has_string, tokens_of, IsTokenIndex}
use Rattle.std.proofs.lemmas.List.{take_rest}
use Rattle.cweb_store.specs.inner.Records.{TokenListModel}
use Rattle.cweb_store.proofs.RecordLemmas.{cut-is}
use Rattle.cweb_store.proofs.TokenStringLemmas.{truncate-are, truncate-tokens}
use Rattle.cweb_store.proofs.tokens.list.TokenList.truncate.Goals as goal

pub invariant_of-self : goal.invariant_of-self
invariant_of-self c =
    let s = c.self.inside in
    let count = c.args.count in
    let all = c.self.invariant.tokens in
    let cut = cut-is (length s.strings.strings) count s.records.items _ (length s.places.items) _
    c.first_place-places.result all.numbers
    (take_rest c.deref.result.now count ∙ ap (drop count) c.deref.ensures.value) (c.len-2.ensures ∙ s.places.ok.0)
    c.first_place-places.ensures in
    let same = subst (λ (v : TokenListModel). filter has_string (take count v.tokens) ≡ filter has_string v.tokens)
    (sym c.self.view_is) c.requires in
    rw (c.truncate.ensures.items, c.truncate-2.ensures.items)
    (record {
      tokens = truncate-are s.strings s.places.items s.records.items count c.first_place-places.result all cut same;
      index = subst (IsTokenIndex c.truncate-3.new.self)
          (sym (truncate-tokens s.strings.strings s.places.items s.records.items count c.first_place-places.result cut))
          (c.truncate-3.ensures.index
          (tokens_of s.strings.strings s.places.items s.records.items) c.self.invariant.index);
    })

pub returns-clause-tokens : goal.returns-clause-tokens
returns-clause-tokens c =
    let s = c.self.inside in
    let count = c.args.count in
    rw (c.truncate.ensures.items, c.truncate-2.ensures.items, ← c.self.view_is)
    (truncate-tokens s.strings.strings s.places.items s.records.items count c.first_place-places.result
    (cut-is (length s.strings.strings) count s.records.items _ (length s.places.items) _ c.first_place-places.result
    c.self.invariant.tokens.numbers (take_rest c.deref.result.now count ∙ ap (drop count) c.deref.ensures.value)
    (c.len-2.ensures ∙ s.places.ok.0) c.first_place-places.ensures))
